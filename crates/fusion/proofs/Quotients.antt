-- Values that are multiples of a whole number.
use Rattle.fusion.proofs.Names.{◌≡◌, ℕ, zero, suc, ◌*◌, ◌/◌, ◌%◌, ◌<◌, ◌≤◌, ◌==◌, ◌&&◌, Bool, true, false, List, [], ◌∷◌, length, Some, None, refl, sym, ◌∙◌, ap, arith, pos, w128, to_z, of_z, cyclotomic, is_conductor, CyclotomicValue, cyclotomic_value, read_128, whole, take, drop, ℤ, negsuc, nat_abs, list_all, div-add-mod, size_of, natural_of, quotient_of, whole_quotient}
use Rattle.cyclotomic.specs.Polynomial.{coefficient, zeros}
use Rattle.cyclotomic.specs.Conductors.{phi_of}
use Rattle.qd_ring.specs.CycArrays.{is_array, is_nought, is_small}
use Rattle.qd_ring.specs.ReductionSigns.{conductor_bounds}
use Rattle.qd_ring.specs.ArrayLaws.{value_of-padded, zeros_noughts, coefficients_of, size-value}
use Rattle.qd_ring.proofs.CycLaws.{small_means}
use Rattle.table_check.specs.Check.{is_same, where_holds}
use Rattle.table_check.proofs.Same.{is_same-Decides}
use Rattle.transport.proofs.Wholes.{whole_injective}

where_true : (test : Bool) (v : ℕ) → test ≡ true → where_holds test v ≡ Some v
where_true true v e = refl
where_true false v e = absurd cc

where_false : (test : Bool) (v : ℕ) → test ≡ false → where_holds test v ≡ None
where_false true v e = absurd cc
where_false false v e = refl

taken : (test : Bool) (v w : ℕ) → where_holds test v ≡ Some w → (test ≡ true) × (v ≡ w)
taken true v w e = let same : v ≡ w = cc in (refl, same)
taken false v w e = absurd cc

drop_zeros : (n m : ℕ) → list_all is_nought (drop n (zeros m)) ≡ true
drop_zeros zero m = zeros_noughts m
drop_zeros (suc n) zero = refl
drop_zeros (suc n) (suc m) = drop_zeros n m

module _ (k : ℕ) where
  same_not : (u w : CyclotomicValue k) → (u ≡ w → ⊥) → is_same u w ≡ false
  same_not u w apart = by (is_same u w) refl
    where
      by : (b : Bool) → is_same u w ≡ b → is_same u w ≡ false
      by true e = absurd (apart ((is_same-Decides u w).0 e))
      by false e = e

  module _ (entry : is_conductor k ≡ true) where
    -- a whole number is an array with zeros
    number_array : (c : ℤ) → is_array k (c ∷ zeros 41) ≡ true
    unfolding is_array
    number_array c = after (phi_of k) (conductor_bounds k entry).3
      where
        after : (n : ℕ) → 1 < n → ((length (c ∷ zeros 41) == 42) && list_all is_nought (drop n (c ∷ zeros 41))) ≡ true
        after zero more = absurd (omega (arith, more))
        after (suc n) more = drop_zeros n 41

    first_of : (n : ℕ) (c : ℤ) (xs : List ℤ) → 1 < n → coefficient (take n (c ∷ xs)) 0 ≡ c
    unfolding coefficient
    first_of zero c xs more = absurd (omega (arith, more))
    first_of (suc n) c xs more = refl

    -- the coefficient at power 0 of a whole number
    pub first_coefficient : (c : ℤ) → coefficient (cyclotomic_value k (c ∷ [])).coefficients 0 ≡ c
    first_coefficient c =
        ap (λ (u : CyclotomicValue k). coefficient u.coefficients 0) (sym (value_of-padded (cyclotomic k) (c ∷ []) 41))
        ∙ ap (λ xs. coefficient xs 0) (coefficients_of k entry (c ∷ zeros 41) (number_array c))
        ∙ first_of (phi_of k) c (zeros 41) (conductor_bounds k entry).3

    first_small : (xs : List ℤ) → nat_abs (coefficient xs 0) ≤ size_of xs
    unfolding coefficient size_of
    first_small [] = omega arith
    first_small (x ∷ xs) = omega arith

    -- a whole number that is a value that fits is read back
    pub read_back : (xs : List ℤ) → is_array k xs ≡ true → is_small xs ≡ true → (c : ℤ) → cyclotomic_value k xs ≡ cyclotomic_value k (c ∷ []) → to_z w128 (of_z w128 c) ≡ c
    read_back xs array small c is =
        let same : coefficient (cyclotomic_value k xs).coefficients 0 ≡ c = ap (λ (u : CyclotomicValue k). coefficient u.coefficients 0) is ∙ first_coefficient c in
        read_128 c (omega (arith, ap nat_abs (sym same), first_small (cyclotomic_value k xs).coefficients, size-value k entry xs array, small_means xs small))

    module _ (n : ℕ) (u : CyclotomicValue k) where
      -- the quotient that is tried for a whole number
      tried : (c : ℤ) → u ≡ cyclotomic_value k (c ∷ []) → quotient_of n (coefficient u.coefficients 0) ≡ quotient_of n c
      tried c is = ap (quotient_of n) (ap (λ (w : CyclotomicValue k). coefficient w.coefficients 0) is ∙ first_coefficient c)

      answer : (c : ℤ) → u ≡ cyclotomic_value k (c ∷ []) → whole_quotient k n u ≡ where_holds (is_same u (whole k (n * quotient_of n c))) (quotient_of n c)
      answer c is = ap (λ v. where_holds (is_same u (whole k (n * v))) v) (tried c is)

      pub quotient_found : (c : ℕ) → u ≡ cyclotomic_value k (pos c ∷ []) → c % n ≡ 0 → whole_quotient k n u ≡ Some (c / n)
      quotient_found c is divides =
          let back : c ≡ n * (c / n) = omega (arith, div-add-mod c n, divides) in
          answer (pos c) is ∙ where_true (is_same u (whole k (n * (c / n)))) (c / n) ((is_same-Decides u (whole k (n * (c / n)))).1 (is ∙ ap (whole k) back))

      pub quotient_rest : (c : ℕ) → u ≡ cyclotomic_value k (pos c ∷ []) → (c % n ≡ 0 → ⊥) → whole_quotient k n u ≡ None
      quotient_rest c is rest =
          answer (pos c) is ∙ where_false (is_same u (whole k (n * (c / n)))) (c / n)
          (same_not u (whole k (n * (c / n)))
          (λ same.
          let back : c ≡ n * (c / n) = whole_injective k entry c (n * (c / n)) (sym is ∙ same) in
          rest (omega (arith, div-add-mod c n, back))))

      pub quotient_negative : (c : ℕ) → u ≡ cyclotomic_value k (negsuc c ∷ []) → whole_quotient k n u ≡ None
      quotient_negative c is =
          answer (negsuc c) is ∙ where_false (is_same u (whole k (n * (0 / n)))) (0 / n)
          (same_not u (whole k (n * (0 / n)))
          (λ same.
          let first : negsuc c ≡ pos (n * (0 / n)) = sym (first_coefficient (negsuc c)) ∙ ap (λ (w : CyclotomicValue k). coefficient w.coefficients 0) (sym is ∙ same) ∙ first_coefficient (pos (n * (0 / n))) in cc))

      pub quotient_none : ((v : ℤ) → u ≡ cyclotomic_value k (v ∷ []) → ⊥) → whole_quotient k n u ≡ None
      quotient_none none =
          let v = quotient_of n (coefficient u.coefficients 0) in where_false (is_same u (whole k (n * v))) v (same_not u (whole k (n * v)) (λ same. none (pos (n * v)) same))

      -- by what the number is
      pub quotient_by : (w : ℤ) (c : ℕ) → natural_of w ≡ Some c → u ≡ cyclotomic_value k (w ∷ []) → u ≡ cyclotomic_value k (pos c ∷ [])
      quotient_by (pos d) c natural is = let same : d ≡ c = cc in is ∙ ap (λ m. cyclotomic_value k (pos m ∷ [])) same
      quotient_by (negsuc d) c natural is = absurd cc

      pub quotient_below : (w : ℤ) → natural_of w ≡ None → u ≡ cyclotomic_value k (w ∷ []) → whole_quotient k n u ≡ None
      quotient_below (pos d) natural is = absurd cc
      quotient_below (negsuc d) natural is = quotient_negative d is

  -- what a quotient says
  pub quotient_means : (n : ℕ) (u : CyclotomicValue k) (v : ℕ) → whole_quotient k n u ≡ Some v → u ≡ whole k (n * v)
  quotient_means n u v found =
      let tried = quotient_of n (coefficient u.coefficients 0) in
      let is = taken (is_same u (whole k (n * tried))) tried v found in
      (is_same-Decides u (whole k (n * tried))).0 is.0 ∙ ap (λ w. whole k (n * w)) is.1
