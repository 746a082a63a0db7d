-- Numbers by which an element of the basis multiplies an element.
use Rattle.dixon_split.proofs.Names.{◌≡◌, ℕ, ◌*◌, ◌%◌, ◌<◌, Bool, true, false, cond, Option, Some, None, IfSome, IfNone, List, get_or, refl, sym, ◌∙◌, ap, subst, arith, eqb-true, eqb, mod-eq_of_lt, eq-eqb, fun_ext, all_below, first, all_below-at, all_below-all, first_some, first_none-at, CommRing, Below, below_equal, field, field_residue, number, Acts, mul-mod_first, mul-mod_second, Element, IsElement, residues, HasStructure, Structure}

-- what the test at v finds
abbrev pub multiple_test : Structure → List ℕ → List ℕ → ℕ → Bool
multiple_test a image e v = all_below a.rank (λ k. eqb (get_or image k 0) ((v * get_or e k 0) % a.q))

abbrev pub found_multiple : Structure → List ℕ → List ℕ → ℕ → Option ℕ
found_multiple a image e v = cond (multiple_test a image e v) (Some v) None

pub chosen : (b : Bool) (v w : ℕ) → cond b (Some v) None ≡ Some w → (b ≡ true) × (v ≡ w)
chosen true v w h = (refl, cc)
chosen false v w h = absurd cc

pub not_chosen : (b : Bool) (v : ℕ) → cond b (Some v) None ≡ None → b ≡ false
not_chosen true v h = absurd cc
not_chosen false v h = refl

-- the product of residues
pub product_residue : (a : Structure) (v k : ℕ) → (field a.q a.listed).mul (field_residue a.q a.listed v) (field_residue a.q a.listed k) ≡ field_residue a.q a.listed (v * k)
product_residue a v k = below_equal _ _ (mul-mod_first v (k % a.q) a.q ∙ mul-mod_second v k a.q)

module _ (a : Structure) (t : ℕ) (image e : List ℕ) (I : IsElement a.q a.rank image) (Z : CommRing (Element a.q a.rank)) (H : HasStructure a Z) (is : residues a image ≡ Z.mul (H.basis t) (residues a e)) where
  passes_acts : (v : ℕ) → multiple_test a image e v ≡ true → Z.mul (H.basis t) (residues a e) ≡ Z.mul (number Z v) (residues a e)
  passes_acts v h = sym is ∙ fun_ext (λ k.
      below_equal _ _ (mod-eq_of_lt (I.below k.value (let c = I.count in let b = k.below in omega arith)) ∙ eqb-true (get_or image k.value 0) ((v * get_or e k.value 0) % a.q) (all_below-at a.rank k.value (λ k. eqb (get_or image k 0) ((v * get_or e k 0) % a.q)) h k.below))
      ∙ sym (H.number_at v (residues a e) k ∙ product_residue a v (get_or e k.value 0)))

  acts_passes : (v : ℕ) → Z.mul (H.basis t) (residues a e) ≡ Z.mul (number Z v) (residues a e) → multiple_test a image e v ≡ true
  acts_passes v h = all_below-all a.rank (λ k. eqb (get_or image k 0) ((v * get_or e k 0) % a.q)) (λ k below.
      let place : Below a.rank = record { value = k; below = below } in
      eq-eqb (get_or image k 0) ((v * get_or e k 0) % a.q)
      (sym (mod-eq_of_lt (I.below k (let c = I.count in omega arith)))
      ∙ ap (λ (x : Below a.q). x.value) (ap (λ (z : Element a.q a.rank). z place) (is ∙ h) ∙ H.number_at v (residues a e) place ∙ product_residue a v (get_or e k 0))))

  pub found_acts : (o : Option ℕ) → o ≡ first a.q (found_multiple a image e) → IfSome o (λ v. Z.mul (H.basis t) (residues a e) ≡ Z.mul (number Z v) (residues a e))
  found_acts None h = tt
  found_acts (Some v) h =
      let found = first_some a.q (found_multiple a image e) v (sym h) in
      let here = chosen (multiple_test a image e found.place) found.place v found.here in
      passes_acts v (ap (multiple_test a image e) (sym here.1) ∙ here.0)

  pub not_found : (o : Option ℕ) → o ≡ first a.q (found_multiple a image e) → IfNone o (Acts Z a.q (H.basis t) (residues a e) → ⊥)
  not_found (Some v) h = tt
  not_found None h = λ acts.
      absurd (let none : multiple_test a image e acts.value ≡ false = not_chosen (multiple_test a image e acts.value) acts.value (first_none-at a.q acts.value (found_multiple a image e) (sym h) acts.below) in
      let all : multiple_test a image e acts.value ≡ true = acts_passes acts.value acts.acts in
      let t : true ≡ false = sym all ∙ none in cc)

-- what is found below n is below n
pub least_below : (n : ℕ) (test : ℕ → Bool) (o : Option ℕ) → o ≡ first n (λ v. cond (test v) (Some v) None) → IfSome o (λ v. v < n)
least_below n test None h = tt
least_below n test (Some v) h =
    let found = first_some n (λ v. cond (test v) (Some v) None) v (sym h) in
    let here = chosen (test found.place) found.place v found.here in
    subst (λ k. k < n) here.1 found.below

pub found_below : (a : Structure) (image e : List ℕ) (o : Option ℕ) → o ≡ first a.q (found_multiple a image e) → IfSome o (λ v. v < a.q)
found_below a image e o h = least_below a.q (multiple_test a image e) o h
