-- Listed sums over all commuting pairs are sums over the listed ones.
use Rattle.pair_orbits.proofs.Names.{◌≡◌, ℕ, zero, suc, ◌+◌, ◌*◌, ◌≤◌, max, Bool, true, false, not, ◌||◌, ◌∷◌, List, [], map, refl, sym, ap, ap₂, ◌∙◌, arith, inl, inr, eqb-true, nat_lt, zero-add, ℤ, pos, nat_abs, sum_by, range_with_len, mul-le-mul_left, mul-zero, cases_lt, sum_by-map-range_with_len_more, fun_ext, all_below, all_below-all, sum_ext, pick_true, pick_false, CyclotomicValue, cyclotomic_ring, magnitude-product, size-zeros, Table, IsGroup, Formed, where_so, IsInvariant, added, pairs_sum, weighted, AllFit, FormedOverOrbits, multiple, pick_in, value_multiple, value_nought, sum_overflows, first_of, second_of, is_commuting, commuting_pairs_of, listed_pairs}
use Rattle.orders.proofs.Sums.{total, pick, total_same}
use Rattle.cyclotomic.specs.Cyclotomic.{cyclotomic}
use Rattle.cyclotomic.specs.Polynomial.{scaled}
use Rattle.cyclotomic.specs.Fit.{size_of, value_size, sizes_overflow, greatest_magnitude}
use Rattle.cyclotomic.proofs.Orthogonality.{multiple-is}
use Rattle.pair_orbits.proofs.Actions.{first_below, second_below}
use Rattle.pair_orbits.proofs.Passing.{passing_total, sum_by_again}
use Rattle.pair_orbits.proofs.Sums.{sum_by_orbits, size_by_orbits}

-- ---- sizes of multiples
times_max : (w a b : ℕ) → max (w * a) (w * b) ≡ w * max a b
times_max w a b = elim (cases_lt a b) [
  | inl less ↦
      let greater : max a b ≡ b = omega arith in
      let order : w * a ≤ w * b = mul-le-mul_left w (omega arith) in
      omega (arith, order, ap (λ m. w * m) greater)
  | inr more ↦
      let greater : max a b ≡ a = omega arith in
      let order : w * b ≤ w * a = mul-le-mul_left w more in
      omega (arith, order, ap (λ m. w * m) greater)
]

size_scaled : (w : ℕ) (p : List ℤ) → size_of (scaled (pos w) p) ≡ w * size_of p
unfolding size_of scaled
size_scaled w [] = sym (mul-zero w)
size_scaled w (a ∷ p) = ap₂ max (magnitude-product (pos w) a) (size_scaled w p) ∙ times_max w (nat_abs a) (size_of p)

module _ (k : ℕ) where
  -- a multiple is as many times as great
  pub size_weighted : (w : ℕ) (u : CyclotomicValue k) → value_size (multiple (cyclotomic_ring k) w u) ≡ w * value_size u
  unfolding value_multiple
  size_weighted w u = ap (λ v. value_size v) (multiple-is (cyclotomic k) w u) ∙ size_scaled w u.coefficients

  -- a value that stands where a test holds
  value_where : (test : Bool) (u : Formed k) → (where_so k test u).value ≡ pick_in (cyclotomic_ring k) test u.value
  value_where true u = sym (pick_true (cyclotomic_ring k) u.value)
  value_where false u = sym (pick_false (cyclotomic_ring k) u.value)

  size_where : (test : Bool) (u : Formed k) → value_size (where_so k test u).value ≡ pick test (value_size u.value)
  unfolding value_nought
  size_where true u = refl
  size_where false u = size-zeros _

  fits_where : (test : Bool) (u : Formed k) → (test ≡ true → u.fits ≡ true) → (where_so k test u).fits ≡ true
  fits_where true u h = h refl
  fits_where false u h = refl

-- a sum over a list of numbers in order
range_total : {X : Type 0} (size : X → ℕ) (f : ℕ → X) (n : ℕ) → sum_by size (map f (range_with_len 0 n)) ≡ total n (λ i. size (f i))
unfolding total
range_total size f zero = refl
range_total size f (suc n) =
    let more = sum_by-map-range_with_len_more size f 0 n n (zero-add n) in
    let before = range_total size f n in
    let step : suc n ≡ n + 1 = omega arith in
    let next = ap (λ m. sum_by size (map f (range_with_len 0 m))) step in
    omega (arith, more, before, next)

module _ (k : ℕ) (t : Table) (G : IsGroup t) (term : ℕ → ℕ → Formed k) (fit : AllFit k t term) (invariant : IsInvariant t (λ g h. (term g h).value)) where
  abbrev at : ℕ → Formed k
  at p = where_so k (is_commuting t p) (term (first_of t p) (second_of t p))

  abbrev size : ℕ → ℕ → ℕ
  size g h = value_size (term g h).value

  sizes_invariant : IsInvariant t size
  sizes_invariant = record { same = λ c g h c_below g_below h_below commutes. ap (λ u. value_size u) (invariant.same c g h c_below g_below h_below commutes) }

  all_fit : all_below (t.order * t.order) (λ p. (at p).fits) ≡ true
  all_fit =
      all_below-all (t.order * t.order) (λ p. (at p).fits)
      (λ p below.
      fits_where k (is_commuting t p) (term (first_of t p) (second_of t p))
      (λ so. fit.fit (first_of t p) (second_of t p) (first_below t G p below) (second_below t G p) (eqb-true _ _ so)))

  same_sizes : sum_by (λ u. value_size u) (map (λ p. (at p).value) (range_with_len 0 (t.order * t.order)))
      ≡ sum_by (λ u. value_size u) (map (weighted k term) (listed_pairs t))
  unfolding commuting_pairs_of
  same_sizes =
      let N = t.order * t.order in
      range_total (λ u. value_size u) (λ p. (at p).value) N
      ∙ total_same N _ _ (λ p below. size_where k (is_commuting t p) (term (first_of t p) (second_of t p)))
      ∙ sym (passing_total N (is_commuting t) (λ p. size (first_of t p) (second_of t p)))
      ∙ size_by_orbits t G size sizes_invariant
      ∙ ap (λ f. sum_by f (listed_pairs t)) (fun_ext (λ pair. sym (size_weighted k pair.weight (term pair.g pair.h).value)))
      ∙ sym (sum_by_again (weighted k term) (λ u. value_size u) (listed_pairs t))

  same_fits : (pairs_sum k t term).fits ≡ (added k (weighted k term) (listed_pairs t)).fits
  unfolding sum_overflows sizes_overflow
  same_fits = ap₂ (λ a b. not (not a || b)) all_fit (ap (λ s. nat_lt greatest_magnitude s) same_sizes)

  same_value : (pairs_sum k t term).value ≡ (added k (weighted k term) (listed_pairs t)).value
  same_value =
      sum_ext (cyclotomic_ring k) (t.order * t.order) _ _ (λ p below. value_where k (is_commuting t p) (term (first_of t p) (second_of t p)))
      ∙ sum_by_orbits (cyclotomic_ring k) t G (λ g h. (term g h).value) invariant

  pub formed_by_orbits : pairs_sum k t term ≡ added k (weighted k term) (listed_pairs t)
  formed_by_orbits = ap₂ (λ a b. record { fits = a; value = b }) same_fits same_value

pub formed_over_orbits : FormedOverOrbits
formed_over_orbits k t G term fit invariant = formed_by_orbits k t G term fit invariant
