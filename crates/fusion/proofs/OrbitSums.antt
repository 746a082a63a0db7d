-- Fusion sums as sums over the listed pairs.
use Rattle.fusion.proofs.Names.{◌≡◌, ◌<◌, ◌*◌, ◌/◌, ◌%◌, ◌==◌, ℕ, Bool, false, length, get_or, sym, ◌∙◌, ap, sum_below, sum_ext, class_of, cyclotomic, value_nought, value_product, CyclotomicValue, cyclotomic_ring, conjugate, listed_pairs, SimplesOver, count, class_at, AreSimples, full_character, commute, tensor_character, fusion_sum, multiple, multiple_nought, multiple_is_mul, mul_multiple, IsPassing, passing_below-all, whole_multiple, where_picked, inner_term, listed_at, places_of, weighted_conjugate, orbit_term}
use Rattle.std.proofs.lemmas.List.Elements.{All-get_or}
use Rattle.pair_orbits.specs.Listing.{no_pair}
use Rattle.pair_orbits.proofs.Sums.{sum_by_orbits}
use Rattle.qd_ring.specs.Formed.{whole}
use Rattle.qd_ring.proofs.NoughtLaws.{unless_so, conjugate_of_nought}
use Rattle.fusion.proofs.MemberSums.{sum_items, sum_of_passing}
use Rattle.fusion.proofs.TensorSums.{product_nought}
use Rattle.fusion.proofs.Invariance.{inner_terms_invariant}

module _ (k : ℕ) (s : SimplesOver) where
  -- a term is 0 where the first element isn't in the class of l
  orbit_outside : (i j l p : ℕ) → (class_of s.cocycle.group (listed_at k s p).g == class_at k s l) ≡ false → orbit_term k s i j l p ≡ value_nought
  orbit_outside i j l p other =
      let g = (listed_at k s p).g in
      let x = (listed_at k s p).h in
      ap (multiple (cyclotomic_ring k) (listed_at k s p).weight)
      (product_nought k (tensor_character k s i j g x).value (conjugate k (full_character k s l g x).value)
      (conjugate_of_nought k (full_character k s l g x) (unless_so k (class_of s.cocycle.group g == class_at k s l) _ other)).nought)
      ∙ multiple_nought (cyclotomic_ring k) (listed_at k s p).weight

  -- the fusion sum is a sum over the listed pairs whose first element is in the class of l
  pub fusion_sum_of_orbits : AreSimples k s → (i j l : ℕ) → i < count k s → j < count k s → l < count k s
      → (fusion_sum k s i j l).value ≡ sum_below (cyclotomic_ring k) (length (places_of k s l)) (λ q. orbit_term k s i j l (get_or (places_of k s l) q 0))
  fusion_sum_of_orbits S i j l i_below j_below l_below =
      let R = cyclotomic_ring k in
      let t = s.cocycle.group in
      let n = s.cocycle.group.order in
      let f : ℕ → ℕ → CyclotomicValue k = λ g x. (inner_term k s i j l g x).value in
      sum_ext R (n * n) _ _ (λ p below. sym (where_picked k (commute t (p / n) (p % n)) (inner_term k s i j l (p / n) (p % n))))
      ∙ sum_by_orbits R t S.cocycle.cochain.group f (inner_terms_invariant k s S i j l i_below j_below l_below)
      ∙ sym (sum_items R (listed_pairs t) no_pair (λ pair. multiple R pair.weight (f pair.g pair.h)))
      ∙ sum_of_passing R (length (listed_pairs t)) (λ p. class_of t (listed_at k s p).g == class_at k s l) (orbit_term k s i j l) (λ p below other. orbit_outside i j l p other)

  -- a place of a pair whose first element is in the class of l is one of a listed pair
  pub place_below : (l q : ℕ) → q < length (places_of k s l) → get_or (places_of k s l) q 0 < length (listed_pairs s.cocycle.group)
  place_below l q inside =
      let n = length (listed_pairs s.cocycle.group) in
      let test : ℕ → Bool = λ p. class_of s.cocycle.group (listed_at k s p).g == class_at k s l in
      (All-get_or (IsPassing n test) (places_of k s l) q 0 inside (passing_below-all n test)).below

  -- a weighted conjugate, by a whole number
  pub weighted_is : (l g x w : ℕ) (u : CyclotomicValue k) → u ≡ conjugate k (full_character k s l g x).value
      → value_product (cyclotomic k) u (whole k w) ≡ weighted_conjugate k s l (record { g = g; h = x; weight = w })
  weighted_is l g x w u is =
      let R = cyclotomic_ring k in
      R.mul_comm u (whole k w) ∙ ap (λ a. value_product (cyclotomic k) a u) (whole_multiple k w)
      ∙ sym (multiple_is_mul R w u) ∙ ap (multiple R w) is

  -- the term of a listed pair by its weighted conjugate
  pub orbit_product : (i j l p : ℕ) (u : CyclotomicValue k) → u ≡ (tensor_character k s i j (listed_at k s p).g (listed_at k s p).h).value
      → value_product (cyclotomic k) u (weighted_conjugate k s l (listed_at k s p)) ≡ orbit_term k s i j l p
  orbit_product i j l p u is =
      let R = cyclotomic_ring k in
      let pair = listed_at k s p in
      mul_multiple R pair.weight u (conjugate k (full_character k s l pair.g pair.h).value)
      ∙ ap (λ a. multiple R pair.weight (value_product (cyclotomic k) a (conjugate k (full_character k s l pair.g pair.h).value))) is
