-- Steps of adding up products in one buffer.
use Rattle.qd_ring.proofs.Names.{◌≡◌, ◌+◌, ◌*◌, ◌^◌, ◌<◌, ◌≤◌, ℕ, true, not, ◌||◌, ◌&&◌, Some, List, ◌++◌, length, take, map, sym, ◌∙◌, ap, subst, arith, zero-add, sum_by, ℤ, range_with_len, mul-le-mul, le-ltb, sum_by-map-range_with_len_more, le-leb, lt-ltb, ap₂, all_below-zero, all_below-step, one_mul, sum_zero, is_conductor, cyclotomic, value_sum, value_nought, value_product, CyclotomicValue, cyclotomic_ring, cyclotomic_value, value_size, value_fits, product_fits, greatest_magnitude, sizes_overflow, root-zero, total_of, Cyc, Monomial, sum_overflows, Formed, Forms, listed, multiplied, turned, value_of_terms, total_of_terms, turned_product, IsSparseOf, IsTurnedProduct, IsFolded, take-append_seam, length-take-le, value_of, conductor_bounds}
use Rattle.qd_ring.proofs.ReduceLaws.{remainder_size}
use Rattle.qd_ring.proofs.ListedSums.{sum_below_more}
use Rattle.qd_ring.proofs.SparseLaws.{size-turned, size-turned_product}

-- a value is at most the total of its terms
size_of_terms : (k : ℕ) → is_conductor k ≡ true → (terms : List Monomial) → value_size (value_of_terms k terms) ≤ total_of_terms terms
size_of_terms k entry terms =
    subst (λ u. value_size u ≤ total_of_terms terms)
    (ap (λ r. value_product (cyclotomic k) r (value_of_terms k terms)) (root-zero (cyclotomic k)) ∙ one_mul (cyclotomic_ring k) (value_of_terms k terms))
    (size-turned k entry 0 terms)

module _ (k : ℕ) (term : ℕ → Formed k) where
  -- no terms
  pub folded_none : IsFolded k term 0 value_nought 0
  folded_none = record {
    fit = all_below-zero (λ i. (term i).fits);
    adds = sym (sum_zero (cyclotomic_ring k) (λ i. (term i).value));
    within = omega arith;
  }

  -- one more term
  pub folded_more : is_conductor k ≡ true → (i : ℕ) (sum : CyclotomicValue k) (bound e : ℕ) (a b : List Monomial)
      → bound + total_of_terms a * total_of_terms b < 2 ^ 108
      → IsFolded k term i sum bound → IsTurnedProduct k (term i) e (value_of_terms k a) (value_of_terms k b)
      → IsFolded k term (i + 1) (value_sum sum (turned_product k e (value_of_terms k a) (value_of_terms k b))) (bound + total_of_terms a * total_of_terms b)
  unfolding product_fits value_fits
  folded_more entry i sum bound e a b room before formed =
      let u = value_of_terms k a in
      let v = value_of_terms k b in
      let size = size-turned_product k entry e a b in
      let sizes = mul-le-mul (size_of_terms k entry a) (size_of_terms k entry b) in
      let formed_is = ap (λ w. value_size w) formed.is in
      record {
        fit = all_below-step i (λ j. (term j).fits) before.fit
            (formed.fits (lt-ltb (value_size u * value_size v) (2 ^ 108) (omega (arith, sizes, room)))
            (le-leb (value_size (turned_product k e u v)) greatest_magnitude (omega (arith, size, room))));
        adds = sum_below_more (cyclotomic_ring k) (λ j. (term j).value) i sum (turned_product k e u v) before.adds (sym formed.is);
        within = omega
            (arith, before.within, size, formed_is, sum_by-map-range_with_len_more (λ w. value_size w) (λ j. (term j).value) 0 i i (zero-add i));
      }

  -- the same sum, within the same bound
  pub folded_same : (n : ℕ) (sum sum' : CyclotomicValue k) (bound bound' : ℕ) → sum ≡ sum' → bound ≡ bound' → IsFolded k term n sum bound → IsFolded k term n sum' bound'
  folded_same n sum sum' bound bound' same within folded = record {
    fit = folded.fit;
    adds = sym same ∙ folded.adds;
    within = omega (arith, folded.within, within);
  }

  -- the sum of all terms
  pub folded_all : (n : ℕ) (sum : CyclotomicValue k) (bound : ℕ) (c : Cyc k) → bound < 2 ^ 108 → IsFolded k term n sum bound
      → cyclotomic_value k c.coefficients ≡ sum → Forms (listed k n term) (Some c)
  unfolding sum_overflows sizes_overflow
  folded_all n sum bound c small folded same = record {
    there = sym (ap₂ (λ a b. not (not a || b)) folded.fit (le-ltb greatest_magnitude (sum_by (λ u. value_size u) (map (λ i. (term i).value) (range_with_len 0 n))) (omega (arith, folded.within, small))));
    stands = same ∙ folded.adds;
  }

-- ---- buffers of 120 coefficients
module _ (k : ℕ) where
  -- the value of a buffer whose first places are these
  pub buffer_value : (xs rest : List ℤ) → k ≡ length xs → cyclotomic_value k (take k (xs ++ rest)) ≡ cyclotomic_value k xs
  buffer_value xs rest count =
      ap (λ n. cyclotomic_value k (take n (xs ++ rest))) count ∙ ap (cyclotomic_value k) (take-append_seam xs rest)

module _ (k : ℕ) (entry : is_conductor k ≡ true) where
  pub buffer_front : (xs : List ℤ) → length xs ≡ 120 → length (take k xs) ≡ k
  buffer_front xs size = length-take-le k xs (omega (arith, size, (conductor_bounds k entry).0))

  -- the value of a buffer fits where the total is small
  pub buffer_fits : (xs : List ℤ) → total_of xs < 2 ^ 108 → value_fits (cyclotomic_value k xs) ≡ true
  unfolding value_of value_fits
  buffer_fits xs small = le-leb (value_size (cyclotomic_value k xs)) greatest_magnitude (omega (arith, remainder_size k entry xs, small))

-- ---- products of values that are kept sparse
module _ (k : ℕ) (f h : Formed k) (a b : List Monomial) (of_a : IsSparseOf k f a) (of_b : IsSparseOf k h b) where
  both_formed : product_fits (value_of_terms k a) (value_of_terms k b) ≡ true → (multiplied k f h).fits ≡ true
  both_formed together =
      ap₂ (λ x y. x && y) (ap₂ (λ x y. x && y) of_a.fits of_b.fits) (ap₂ product_fits (sym of_a.stands) (sym of_b.stands) ∙ together)

  -- with a root
  pub turned_is_product : (e : ℕ) → IsTurnedProduct k (turned k e (multiplied k f h)) e (value_of_terms k a) (value_of_terms k b)
  turned_is_product e =
      let is = ap₂ (turned_product k e) (sym of_a.stands) (sym of_b.stands) in
      record { fits = λ together fit. ap₂ (λ x y. x && y) (both_formed together) (ap value_fits is ∙ fit); is = is }

  -- and without
  pub plain_is_product : IsTurnedProduct k (multiplied k f h) 0 (value_of_terms k a) (value_of_terms k b)
  plain_is_product = record {
    fits = λ together fit. both_formed together;
    is = sym (ap (λ r. value_product (cyclotomic k) r (value_product (cyclotomic k) (value_of_terms k a) (value_of_terms k b))) (root-zero (cyclotomic k))
        ∙ one_mul (cyclotomic_ring k) (value_product (cyclotomic k) (value_of_terms k a) (value_of_terms k b))
        ∙ ap₂ (value_product (cyclotomic k)) of_a.stands of_b.stands);
  }
