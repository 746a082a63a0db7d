-- Steps of adding up a listed sum.
use Rattle.qd_ring.proofs.Names.{◌≡◌, ◌+◌, ◌<◌, ◌≤◌, ℕ, true, false, not, ◌||◌, Some, None, map, refl, sym, ◌∙◌, ap, arith, zero-add, nat_lt, sum_by, range_with_len, ltb-false, le-ltb, sum_by-map-range_with_len_more, ap₂, all_below-zero, all_below-step, sum_zero, value_sum, value_nought, CyclotomicValue, cyclotomic_ring, cyclotomic_value, value_size, value_fits, greatest_magnitude, sizes_overflow, sum_overflows, cyclotomic_fit, Cyc, Formed, Forms, listed, IsTotal}
use Rattle.qd_ring.proofs.ListedSums.{front_below, overflow_unless, overflow_by_step, overflow_by_size, sum_below_more}

module _ {k : ℕ} (term : ℕ → Formed k) where
  -- the sizes of the first n terms together
  abbrev sizes_before : ℕ → ℕ
  sizes_before n = sum_by (λ v. value_size v) (map (λ j. (term j).value) (range_with_len 0 n))

  sizes_more : (i sizes : ℕ) (u : CyclotomicValue k) → sizes ≡ sizes_before i → u ≡ (term i).value → sizes + value_size u ≡ sizes_before (i + 1)
  sizes_more i sizes u add same =
      ap₂ (λ a v. a + value_size v) add same ∙ sym (sum_by-map-range_with_len_more (λ v. value_size v) (λ j. (term j).value) 0 i i (zero-add i))

  -- no terms
  pub total_none : IsTotal term 0 value_nought 0
  total_none = record {
    fit = all_below-zero (λ i. (term i).fits);
    adds = sym (sum_zero (cyclotomic_ring k) (λ i. (term i).value));
    sizes_add = refl;
    small = omega arith;
  }

  -- one more term
  pub total_more : (i : ℕ) (sum : CyclotomicValue k) (sizes : ℕ) (u : CyclotomicValue k) → IsTotal term i sum sizes
      → (term i).fits ≡ true → u ≡ (term i).value → sizes + value_size u ≤ greatest_magnitude → IsTotal term (i + 1) (value_sum sum u) (sizes + value_size u)
  total_more i sum sizes u t fit same small = record {
    fit = all_below-step i (λ j. (term j).fits) t.fit fit;
    adds = sum_below_more (cyclotomic_ring k) (λ j. (term j).value) i sum u t.adds same;
    sizes_add = sizes_more i sizes u t.sizes_add same;
    small = small;
  }

  -- the sum of all terms
  pub total_all : (n : ℕ) (sum : CyclotomicValue k) (sizes : ℕ) (c : Cyc k) → IsTotal term n sum sizes → cyclotomic_value k c.coefficients ≡ sum → Forms (listed k n term) (Some c)
  unfolding sum_overflows sizes_overflow
  total_all n sum sizes c t same = record {
    there = sym (ap₂ (λ a b. not (not a || b)) t.fit (ap (λ s. nat_lt greatest_magnitude s) (sym t.sizes_add) ∙ le-ltb greatest_magnitude sizes t.small));
    stands = same ∙ t.adds;
  }

  overflowing : (n : ℕ) → sum_overflows (cyclotomic_ring k) (cyclotomic_fit k) n (λ j. (term j).fits) (λ j. (term j).value) ≡ true → Forms (listed k n term) None
  overflowing n o = record { there = sym (ap not o); stands = tt }

  -- a term with a step that doesn't fit
  pub total_misses : (i n : ℕ) → i < n → (term i).fits ≡ false → Forms (listed k n term) None
  total_misses i n inside unfit =
      overflowing n (overflow_by_step (cyclotomic_ring k) (cyclotomic_fit k) (λ j. (term j).value) n (λ j. (term j).fits) i inside unfit)

  -- a sum that doesn't fit
  pub total_unfit : (i n : ℕ) (sum : CyclotomicValue k) (sizes : ℕ) (u : CyclotomicValue k) → i < n → IsTotal term i sum sizes → u ≡ (term i).value
      → value_fits (value_sum sum u) ≡ false → Forms (listed k n term) None
  total_unfit i n sum sizes u inside t same unfit =
      overflowing n (overflow_by_size (cyclotomic_ring k) (cyclotomic_fit k) (λ j. (term j).value) n (λ j. (term j).fits) i inside sum u t.adds same unfit)

  -- sizes that add up to too much
  too_great : (i n sizes : ℕ) (u : CyclotomicValue k) → i < n → sizes ≡ sizes_before i → u ≡ (term i).value → greatest_magnitude < sizes + value_size u
      → sizes_overflow (map (λ j. (term j).value) (range_with_len 0 n)) ≡ false → ⊥
  unfolding sizes_overflow
  too_great i n sizes u inside add same great o =
      let front = front_below (cyclotomic_ring k) (cyclotomic_fit k) (λ j. (term j).value) (i + 1) n (omega arith) o in
      omega (arith, sizes_more i sizes u add same, ltb-false greatest_magnitude (sizes_before (i + 1)) front, great)

  pub total_great : (i n : ℕ) (sum : CyclotomicValue k) (sizes : ℕ) (u : CyclotomicValue k) → i < n → IsTotal term i sum sizes → u ≡ (term i).value
      → greatest_magnitude < sizes + value_size u → Forms (listed k n term) None
  total_great i n sum sizes u inside t same great =
      overflowing n (overflow_unless (cyclotomic_ring k) (cyclotomic_fit k) (λ j. (term j).value) n (λ j. (term j).fits)
      (too_great i n sizes u inside t.sizes_add same great))
