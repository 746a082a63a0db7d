-- Sums of values over a list: term by term, and with the elements left out at which the value is 0.
use Rattle.pair_orbits.proofs.Names.{◌≡◌, ℕ, ◌+◌, ◌<◌, Bool, true, false, cond, not, ◌||◌, List, [], ◌∷◌, length, map, get_or, refl, sym, ap, ap₂, ◌∙◌, arith, nat_lt, zero-add, sum_by, range_with_len, filter, length-map, get_or-map, fill_by_all, sum_by-cons, fun_ext, all_below, all_below-all, sum_list_cons, sum_list_range, CyclotomicValue, cyclotomic_ring, size-zeros, listed, given, added, sum_below, sum_list, value_nought, sum_overflows}
use Rattle.algebra.proofs.RingLaws.{nought_add}
use Rattle.cyclotomic.specs.Fit.{value_size, sizes_overflow, greatest_magnitude}

module _ (k : ℕ) where
  size_nought : (u : CyclotomicValue k) → u ≡ value_nought → value_size u ≡ 0
  unfolding value_nought
  size_nought u none = ap (λ v. value_size v) none ∙ size-zeros _

  -- n values, each at its place, are those of a list of n elements
  pub listed_added : {X : Type 0} (value : X → CyclotomicValue k) (xs : List X) (n : ℕ) (f : ℕ → CyclotomicValue k) (otherwise : X) → length xs ≡ n
      → ((q : ℕ) → q < n → f q ≡ value (get_or xs q otherwise)) → listed k n (λ q. given k (f q)) ≡ added k value xs
  unfolding sum_overflows
  listed_added value xs n f otherwise count at =
      let same : map value xs ≡ map f (range_with_len 0 n) =
      fill_by_all f (map value xs) n value_nought (length-map xs value ∙ count)
      (λ q inside. get_or-map value xs q otherwise value_nought (omega (arith, inside, count)) ∙ sym (at q inside)) in
      let all : all_below n (λ q. true) ≡ true = all_below-all n (λ q. true) (λ q inside. refl) in
      ap₂ (λ a b. record { fits = a; value = b })
      (ap₂ (λ a b. not (not a || b)) all (ap sizes_overflow (sym same)))
      (sym (sum_list_range (cyclotomic_ring k) 0 n f ∙ ap (sum_below (cyclotomic_ring k) n) (fun_ext (λ i. ap f (zero-add i)))) ∙ ap (sum_list (cyclotomic_ring k)) (sym same))

  module _ {X : Type 0} (value : X → CyclotomicValue k) (test : X → Bool) (outside : (x : X) → test x ≡ false → value x ≡ value_nought) where
    sum_with : (x : X) (rest : List X) (b : Bool) → test x ≡ b → sum_list (cyclotomic_ring k) (map value (filter test rest)) ≡ sum_list (cyclotomic_ring k) (map value rest)
        → sum_list (cyclotomic_ring k) (map value (cond b (x ∷ filter test rest) (filter test rest))) ≡ sum_list (cyclotomic_ring k) (map value (x ∷ rest))
    sum_with x rest true is before =
        let R = cyclotomic_ring k in
        sum_list_cons R (value x) (map value (filter test rest)) ∙ ap (R.add (value x)) before ∙ sym (sum_list_cons R (value x) (map value rest))
    sum_with x rest false is before =
        let R = cyclotomic_ring k in
        before ∙ sym (sum_list_cons R (value x) (map value rest) ∙ ap (λ u. R.add u (sum_list R (map value rest))) (outside x is) ∙ nought_add R (sum_list R (map value rest)))

    filtered_sum : (xs : List X) → sum_list (cyclotomic_ring k) (map value (filter test xs)) ≡ sum_list (cyclotomic_ring k) (map value xs)
    filtered_sum [] = refl
    filtered_sum (x ∷ rest) = sum_with x rest (test x) refl (filtered_sum rest)

    sizes_with : (x : X) (rest : List X) (b : Bool) → test x ≡ b
        → sum_by (λ u. value_size u) (map value (filter test rest)) ≡ sum_by (λ u. value_size u) (map value rest)
        → sum_by (λ u. value_size u) (map value (cond b (x ∷ filter test rest) (filter test rest))) ≡ sum_by (λ u. value_size u) (map value (x ∷ rest))
    sizes_with x rest true is before =
        sum_by-cons (λ u. value_size u) (value x) (map value (filter test rest)) ∙ ap (λ n. value_size (value x) + n) before
        ∙ sym (sum_by-cons (λ u. value_size u) (value x) (map value rest))
    sizes_with x rest false is before =
        before ∙ sym (sum_by-cons (λ u. value_size u) (value x) (map value rest) ∙ ap (λ n. n + sum_by (λ u. value_size u) (map value rest)) (size_nought (value x) (outside x is)) ∙ zero-add (sum_by (λ u. value_size u) (map value rest)))

    filtered_sizes : (xs : List X) → sum_by (λ u. value_size u) (map value (filter test xs)) ≡ sum_by (λ u. value_size u) (map value xs)
    filtered_sizes [] = refl
    filtered_sizes (x ∷ rest) = sizes_with x rest (test x) refl (filtered_sizes rest)

    -- elements at which the value is 0 may be left out
    pub added_filtered : (xs : List X) → added k value (filter test xs) ≡ added k value xs
    unfolding sizes_overflow
    added_filtered xs =
        ap₂ (λ a b. record { fits = not (nat_lt greatest_magnitude a); value = b }) (filtered_sizes xs) (filtered_sum xs)
