-- The number by which an element of the basis multiplies an element, from one place at which the element isn't 0.
use Rattle.dixon_split.proofs.Names.{◌≡◌, ◌≢◌, ℕ, ◌*◌, ◌%◌, ◌<◌, Bool, true, false, cond, Option, Some, None, List, get_or, refl, sym, ◌∙◌, ap, subst, arith, eqb-true, eqb, mod-eq_of_lt, zero-mod, eq-eqb, fun_ext, first, first_some, first_none-at, CommRing, Below, below_equal, mul_nought, field, field_residue, number, Acts, unwrap_or, Element, IsElement, image_value, residues, HasStructure, Structure}
use Rattle.algebra.specs.Fields.{Field}
use Rattle.prime_field.proofs.PolynomialValues.{residue_field}
use Rattle.dixon_split.proofs.Multiples.{chosen, not_chosen, least_below, product_residue}
use Rattle.dixon_split.proofs.Residues.{image_below}

-- the test of a quotient
abbrev pub quotient_test : ℕ → ℕ → ℕ → ℕ → Bool
quotient_test q product factor v = eqb product ((v * factor) % q)

abbrev pub found_quotient : ℕ → ℕ → ℕ → Option ℕ
found_quotient q product factor = first q (λ v. cond (quotient_test q product factor v) (Some v) None)

-- the least quotient, or 0, is below q
pub quotient_below : (q product factor : ℕ) → 0 < q → (o : Option ℕ) → o ≡ found_quotient q product factor → unwrap_or o 0 < q
quotient_below q product factor positive None e = positive
quotient_below q product factor positive (Some v) e = least_below q (quotient_test q product factor) (Some v) e

-- it is a quotient, where there is one
pub quotient_divides : (q product factor : ℕ) (o : Option ℕ) → o ≡ found_quotient q product factor
    → (v : ℕ) → v < q → product ≡ (v * factor) % q → product ≡ (unwrap_or o 0 * factor) % q
quotient_divides q product factor (Some w) e v below h =
    let found = first_some q (λ v. cond (quotient_test q product factor v) (Some v) None) w (sym e) in
    let here = chosen (quotient_test q product factor found.place) found.place w found.here in
    eqb-true product ((w * factor) % q) (ap (quotient_test q product factor) (sym here.1) ∙ here.0)
quotient_divides q product factor None e v below h =
    absurd (let none : quotient_test q product factor v ≡ false = not_chosen (quotient_test q product factor v) v (first_none-at q v (λ v. cond (quotient_test q product factor v) (Some v) None) (sym e) below) in
    let t : true ≡ false = sym (eq-eqb product ((v * factor) % q) h) ∙ none in cc)

module _ {A : Type 0} (R : CommRing A) (F : Field R) where
  -- a factor that isn't nought cancels
  cancel : (x y z : A) → z ≢ R.nought → R.mul x z ≡ R.mul y z → x ≡ y
  cancel x y z there h = alone x ∙ ap (λ u. R.mul u (F.inverse z)) h ∙ sym (alone y)
    where
      alone : (x : A) → x ≡ R.mul (R.mul x z) (F.inverse z)
      alone x = sym (R.mul_one x) ∙ ap (R.mul x) (sym (F.mul_inverse z there)) ∙ sym (R.mul_assoc x z (F.inverse z))

module _ (a : Structure) (t : ℕ) (t_below : t < a.rank) (e : List ℕ) (I : IsElement a.q a.rank e) (Z : CommRing (Element a.q a.rank)) (H : HasStructure a Z) where
  image_at_place : (k : Below a.rank) (acts : Acts Z a.q (H.basis t) (residues a e)) → field_residue a.q a.listed (image_value a t e k.value) ≡ field_residue a.q a.listed (acts.value * get_or e k.value 0)
  image_at_place k acts =
      sym (H.image_at t t_below e k) ∙ ap (λ (z : Element a.q a.rank). z k) acts.acts ∙ H.number_at acts.value (residues a e) k
      ∙ product_residue a acts.value (get_or e k.value 0)

  image_product : (k : Below a.rank) (acts : Acts Z a.q (H.basis t) (residues a e)) → image_value a t e k.value ≡ (acts.value * get_or e k.value 0) % a.q
  image_product k acts = sym (mod-eq_of_lt (image_below a t e k.value)) ∙ ap (λ (x : Below a.q). x.value) (image_at_place k acts)

  residue_there : (k : ℕ) → k < a.rank → get_or e k 0 ≢ 0 → field_residue a.q a.listed (get_or e k 0) ≢ (field a.q a.listed).nought
  residue_there k below there h =
      there (sym (mod-eq_of_lt (I.below k (let c = I.count in omega arith))) ∙ ap (λ (x : Below a.q). x.value) h ∙ zero-mod a.q)

  same_number : (k : ℕ) → k < a.rank → get_or e k 0 ≢ 0 → (v w : ℕ) → (w * get_or e k 0) % a.q ≡ (v * get_or e k 0) % a.q → field_residue a.q a.listed w ≡ field_residue a.q a.listed v
  same_number k below there v w h =
      cancel (field a.q a.listed) (residue_field a.q a.listed) (field_residue a.q a.listed w) (field_residue a.q a.listed v) (field_residue a.q a.listed (get_or e k 0))
      (residue_there k below there)
      (product_residue a w (get_or e k 0) ∙ below_equal _ _ h ∙ sym (product_residue a v (get_or e k 0)))

  -- what divides the image at a place by the number there multiplies the element
  pub quotient_acts : (k : ℕ) → k < a.rank → get_or e k 0 ≢ 0 → (v : ℕ)
      → ((w : ℕ) → w < a.q → image_value a t e k ≡ (w * get_or e k 0) % a.q → image_value a t e k ≡ (v * get_or e k 0) % a.q)
      → Acts Z a.q (H.basis t) (residues a e) → Z.mul (H.basis t) (residues a e) ≡ Z.mul (number Z v) (residues a e)
  quotient_acts k below there v divides acts =
      let image = image_product (record { value = k; below = below }) acts in
      let same = same_number k below there v acts.value (sym image ∙ divides acts.value acts.below image) in
      acts.acts ∙ fun_ext (λ j.
      H.number_at acts.value (residues a e) j ∙ ap (λ z. (field a.q a.listed).mul z (residues a e j)) same ∙ sym (H.number_at v (residues a e) j))

  -- any number multiplies nought to nought
  pub nought_acts : ((k : ℕ) → k < a.rank → get_or e k 0 ≡ 0)
      → Acts Z a.q (H.basis t) (residues a e) → Z.mul (H.basis t) (residues a e) ≡ Z.mul (number Z 0) (residues a e)
  nought_acts all acts =
      acts.acts ∙ fun_ext (λ j. nought_product acts.value j ∙ sym (nought_product 0 j))
    where
      nought_product : (v : ℕ) (j : Below a.rank) → Z.mul (number Z v) (residues a e) j ≡ (field a.q a.listed).nought
      nought_product v j =
          H.number_at v (residues a e) j ∙ ap (λ n. (field a.q a.listed).mul (field_residue a.q a.listed v) (field_residue a.q a.listed n)) (all j.value j.below)
          ∙ mul_nought (field a.q a.listed) (field_residue a.q a.listed v)

-- the first place at which a list isn't 0
abbrev pub place_test : List ℕ → ℕ → Option ℕ
place_test e k = cond (eqb (get_or e k 0) 0) None (Some k)

unless : (b : Bool) (k j : ℕ) → cond b None (Some k) ≡ Some j → (b ≡ false) × (k ≡ j)
unless false k j h = (refl, cc)
unless true k j h = absurd cc

never : (b : Bool) (k : ℕ) → cond b None (Some k) ≡ None → b ≡ true
never true k h = refl
never false k h = absurd cc

pub place_found : (r : ℕ) (e : List ℕ) (k : ℕ) → first r (place_test e) ≡ Some k → (k < r) × (get_or e k 0 ≢ 0)
place_found r e k h =
    let found = first_some r (place_test e) k h in
    let here = unless (eqb (get_or e found.place 0) 0) found.place k found.here in
    (subst (λ j. j < r) here.1 found.below, λ nought. absurd (let t : true ≡ false = sym (eq-eqb (get_or e k 0) 0 nought) ∙ ap (λ j. eqb (get_or e j 0) 0) (sym here.1) ∙ here.0 in cc))

pub no_place : (r : ℕ) (e : List ℕ) → first r (place_test e) ≡ None → (k : ℕ) → k < r → get_or e k 0 ≡ 0
no_place r e h k below = eqb-true (get_or e k 0) 0 (never (eqb (get_or e k 0) 0) k (first_none-at r k (place_test e) h below))
