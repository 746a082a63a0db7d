-- Powers, Horner's sums and parts, number by number.
use Rattle.dixon_split.proofs.Names.{◌≡◌, ℕ, zero, suc, ◌+◌, ◌-◌, ◌*◌, ◌<◌, ◌≤◌, List, [], ◌++◌, length, length-append, get_or, refl, sym, ◌∙◌, ap, subst, arith, inl, inr, ◌⊎◌, zero-mod, suc-mul, add-one, mul-le, modulus_bound, cases_lt, get_or_append_left, get_or-append-add, fun_ext, ap₂, CommRing, Below, power, field, field_residue, IsTabulated, residue_of_value, number, part, get_or-append_right, one_mul, power_zero, power_suc, Element, IsElement, residues, HasStructure, ArePowers, horner_value, part_value, Structure}
use Rattle.splitting_theory.specs.Splitting.{horner}
use Rattle.splitting_theory.proofs.Parts.{horner_zero, horner_suc, part_is}
use Rattle.dixon_split.proofs.Lists.{rows_below}

module _ (a : Structure) (t : ℕ) (e : List ℕ) where
  pub powers_none : ArePowers a t e 0 []
  powers_none = record { count = omega arith; below = λ k h. absurd (omega arith); each = λ Z H i h k. absurd (omega arith) }

  -- the powers of before and one more
  pub powers_more : (j : ℕ) (xs ys p : List ℕ) → ArePowers a t e j xs → ys ≡ xs ++ p → IsElement a.q a.rank p
      → ((Z : CommRing (Element a.q a.rank)) (H : HasStructure a Z) → residues a p ≡ Z.mul (power Z (H.basis t) j) (residues a e)) → ArePowers a t e (j + 1) ys
  powers_more j xs ys p before is element here = record {
    count = ap length is ∙ length-append xs p ∙ (let c = before.count in let d = element.count in let m : suc j * a.rank ≡ j * a.rank + a.rank = suc-mul j a.rank in ap₂ (λ x y. x + y) c d ∙ sym m ∙ ap (λ n. n * a.rank) (sym (add-one j)));
    below = λ k h. subst (λ zs. get_or zs k 0 < a.q) (sym is) (low k (subst (λ zs. k < length zs) is h) (cases_lt k (length xs)));
    each = λ Z H i h k. ap (λ zs. field_residue a.q a.listed (get_or zs (i * a.rank + k.value) 0)) is ∙ at Z H i k h (cases_lt i j);
  }
    where
      low : (k : ℕ) → k < length (xs ++ p) → (k < length xs) ⊎ (length xs ≤ k) → get_or (xs ++ p) k 0 < a.q
      low k h (inl l) = subst (λ v. v < a.q) (sym (get_or_append_left xs p 0 k l)) (before.below k l)
      low k h (inr l) = subst (λ v. v < a.q) (sym (get_or-append_right xs p (length xs) k 0 refl l)) (element.below (k - length xs) (omega (arith, length-append xs p)))

      by : (i j k r n : ℕ) → i ≡ j → n ≡ j * r → i * r + k ≡ n + k
      by i j k r n e c = ap (λ m. m * r + k) e ∙ ap (λ m. m + k) (sym c)

      at : (Z : CommRing (Element a.q a.rank)) (H : HasStructure a Z) (i : ℕ) (k : Below a.rank) → i < j + 1 → (i < j) ⊎ (j ≤ i)
          → field_residue a.q a.listed (get_or (xs ++ p) (i * a.rank + k.value) 0) ≡ Z.mul (power Z (H.basis t) i) (residues a e) k
      at Z H i k h (inl l) =
          ap (field_residue a.q a.listed) (get_or_append_left xs p 0 (i * a.rank + k.value) (let row = rows_below i j a.rank l in let b = k.below in let c = before.count in omega arith)) ∙ before.each Z H i l k
      at Z H i k h (inr l) =
          let same : i ≡ j = omega arith in
          ap (field_residue a.q a.listed) (ap (λ n. get_or (xs ++ p) n 0) (by i j k.value a.rank (length xs) same before.count) ∙ get_or-append-add xs p k.value 0) ∙ ap (λ (z : Element a.q a.rank). z k) (here Z H) ∙ ap (λ n. Z.mul (power Z (H.basis t) n) (residues a e) k) (sym same)

  pub power_none : (Z : CommRing (Element a.q a.rank)) (H : HasStructure a Z) → residues a e ≡ Z.mul (power Z (H.basis t) 0) (residues a e)
  power_none Z H = sym (ap (λ x. Z.mul x (residues a e)) (power_zero Z (H.basis t)) ∙ one_mul Z (residues a e))

  pub power_more : (Z : CommRing (Element a.q a.rank)) (H : HasStructure a Z) (j : ℕ) (x : Element a.q a.rank) → x ≡ Z.mul (power Z (H.basis t) j) (residues a e)
      → Z.mul (H.basis t) x ≡ Z.mul (power Z (H.basis t) (j + 1)) (residues a e)
  power_more Z H j x h =
      ap (λ y. Z.mul (H.basis t) y) h ∙ sym (Z.mul_assoc (H.basis t) (power Z (H.basis t) j) (residues a e))
      ∙ ap (λ y. Z.mul y (residues a e)) (Z.mul_comm (H.basis t) (power Z (H.basis t) j) ∙ sym (power_suc Z (H.basis t) j) ∙ ap (λ n. power Z (H.basis t) n) (sym (add-one j)))

-- places in the list of powers are small numbers
pub place_small : (a : Structure) (j k : ℕ) → j < a.q → k < a.rank → j * a.rank + k < 20557
place_small a j k j_below k_below =
    let row : j * a.rank + a.rank ≤ a.q * a.rank = rows_below j a.q a.rank j_below in
    let most : a.q * a.rank ≤ 337 * 61 = mul-le a.q a.rank 337 61 (modulus_bound a.q a.listed) a.few in
    omega arith

module _ (a : Structure) (powers : List ℕ) (v k : ℕ) where
  pub horner_value_zero : horner_value a powers v k zero ≡ (field a.q a.listed).nought
  unfolding horner_value
  horner_value_zero = refl

  pub horner_value_suc : (n : ℕ) → horner_value a powers v k (suc n) ≡ (field a.q a.listed).add ((field a.q a.listed).mul (field_residue a.q a.listed v) (horner_value a powers v k n)) (field_residue a.q a.listed (get_or powers (n * a.rank + k) 0))
  unfolding horner_value
  horner_value_suc n = refl

  pub horner_value_none : 0 ≡ (horner_value a powers v k zero).value
  horner_value_none = sym (ap (λ x. x.value) horner_value_zero ∙ zero-mod a.q)

  pub part_value_is : (sum : ℕ) → sum ≡ (horner_value a powers v k a.q).value
      → ((field a.q a.listed).add (field_residue a.q a.listed (get_or powers k 0)) ((field a.q a.listed).neg (field_residue a.q a.listed sum))).value ≡ part_value a powers v k
  part_value_is sum e =
      ap (λ x. ((field a.q a.listed).add (field_residue a.q a.listed (get_or powers k 0)) ((field a.q a.listed).neg x)).value) (ap (field_residue a.q a.listed) e ∙ residue_of_value a.q a.listed (horner_value a powers v k a.q))

  -- one more step of the loop
  pub horner_value_step : (j sum next : ℕ) → sum ≡ (horner_value a powers v k j).value
      → next ≡ ((field a.q a.listed).add (field_residue a.q a.listed (get_or powers (j * a.rank + k) 0)) ((field a.q a.listed).mul (field_residue a.q a.listed v) (field_residue a.q a.listed sum))).value
      → next ≡ (horner_value a powers v k (j + 1)).value
  horner_value_step j sum next before is =
      is ∙ ap (λ x. ((field a.q a.listed).add (field_residue a.q a.listed (get_or powers (j * a.rank + k) 0)) ((field a.q a.listed).mul (field_residue a.q a.listed v) x)).value)
      (ap (field_residue a.q a.listed) before ∙ residue_of_value a.q a.listed (horner_value a powers v k j))
      ∙ ap (λ x. x.value) ((field a.q a.listed).add_comm (field_residue a.q a.listed (get_or powers (j * a.rank + k) 0)) ((field a.q a.listed).mul (field_residue a.q a.listed v) (horner_value a powers v k j)))
      ∙ ap (λ x. x.value) (sym (horner_value_suc j)) ∙ ap (λ n. (horner_value a powers v k n).value) (sym (add-one j))

module _ (a : Structure) (t : ℕ) (e powers : List ℕ) (P : ArePowers a t e a.q powers) (Z : CommRing (Element a.q a.rank)) (H : HasStructure a Z) (v : ℕ) where
  horner_at : (n : ℕ) → n ≤ a.q → (k : Below a.rank) → horner_value a powers v k.value n ≡ horner Z (H.basis t) (number Z v) (residues a e) n k
  horner_at zero small k = horner_value_zero a powers v k.value ∙ sym (ap (λ (z : Element a.q a.rank). z k) (horner_zero Z (H.basis t) (number Z v) (residues a e)) ∙ H.nought_at k)
  horner_at (suc n) small k =
      horner_value_suc a powers v k.value n
      ∙ ap₂ (field a.q a.listed).add (ap (λ x. (field a.q a.listed).mul (field_residue a.q a.listed v) x) (horner_at n (omega arith) k) ∙ sym (H.number_at v (horner Z (H.basis t) (number Z v) (residues a e) n) k)) (P.each Z H n (omega arith) k)
      ∙ sym (H.add_at (Z.mul (number Z v) (horner Z (H.basis t) (number Z v) (residues a e) n)) (Z.mul (power Z (H.basis t) n) (residues a e)) k)
      ∙ ap (λ (z : Element a.q a.rank). z k) (sym (horner_suc Z (H.basis t) (number Z v) (residues a e) n))

  pub part_residues : 0 < a.q → (numbers : List ℕ) → IsTabulated a.rank (part_value a powers v) numbers → residues a numbers ≡ part Z a.q (H.basis t) (residues a e) v
  part_residues positive numbers h = fun_ext (λ k.
      ap (field_residue a.q a.listed) (h.each k.value k.below)
      ∙ residue_of_value a.q a.listed ((field a.q a.listed).add (field_residue a.q a.listed (get_or powers k.value 0)) ((field a.q a.listed).neg (horner_value a powers v k.value a.q)))
      ∙ ap₂ (field a.q a.listed).add
      (ap (λ n. field_residue a.q a.listed (get_or powers n 0)) (omega arith) ∙ P.each Z H 0 positive k ∙ ap (λ (z : Element a.q a.rank). z k) (ap (λ x. Z.mul x (residues a e)) (power_zero Z (H.basis t)) ∙ one_mul Z (residues a e)))
      (ap (field a.q a.listed).neg (horner_at a.q (omega arith) k) ∙ sym (H.neg_at (horner Z (H.basis t) (number Z v) (residues a e) a.q) k))
      ∙ sym (H.add_at (residues a e) (Z.neg (horner Z (H.basis t) (number Z v) (residues a e) a.q)) k)
      ∙ ap (λ (z : Element a.q a.rank). z k) (sym (part_is Z a.q (H.basis t) (residues a e) v)))

pub part_is_element : (a : Structure) (powers : List ℕ) (v : ℕ) (numbers : List ℕ) → IsTabulated a.rank (part_value a powers v) numbers → IsElement a.q a.rank numbers
part_is_element a powers v numbers h = record {
  count = h.count;
  below = λ k below. subst (λ x. x < a.q) (sym (h.each k (let c = h.count in omega arith))) ((field a.q a.listed).add (field_residue a.q a.listed (get_or powers k 0)) ((field a.q a.listed).neg (horner_value a powers v k a.q))).below;
}
