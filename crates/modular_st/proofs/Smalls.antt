-- Values whose multiples by roots of unity are small, and which values fit by them.
use Rattle.modular_st.proofs.Names.{◌≡◌, ◌-◌, ◌*◌, ◌^◌, ◌<◌, ◌≤◌, ℕ, true, List, sym, ◌∙◌, ap, subst, arith, mul-le-mul, multiple, is_conductor, cyclotomic, value_product, CyclotomicValue, cyclotomic_ring, root, conjugate, value_size, value_fits, Monomial, value_of_terms, total_of_terms, mul-le-mul_right, le-leb, lt-ltb, mul_multiple, product_fits, greatest_magnitude, size_weighted, IsSmall}
use Rattle.cyclotomic.specs.Conductors.{phi_of}
use Rattle.cyclotomic.proofs.Inverses.{conjugation_prime, galois_product, galois_root, conjugate_conjugate}
use Rattle.qd_ring.specs.ReductionSigns.{conductor_bounds}
use Rattle.qd_ring.proofs.SizeLaws.{size_image}
use Rattle.qd_ring.proofs.SparseLaws.{size-turned}

module _ (k : ℕ) (entry : is_conductor k ≡ true) where
  -- a value is small by its sparse form
  pub small_by_terms : (terms : List Monomial) (u : CyclotomicValue k) → value_of_terms k terms ≡ u → total_of_terms terms < 2 ^ 54 → IsSmall k u
  small_by_terms terms u is few = record {
    small = λ e.
        subst (λ v. value_size (value_product (cyclotomic k) (root k e) v) < 2 ^ 54) is (let most = size-turned k entry e terms in omega (arith, most, few));
  }

  -- and by a multiple
  pub small_by_multiple : (w : ℕ) (u : CyclotomicValue k) → 0 < w → IsSmall k (multiple (cyclotomic_ring k) w u) → IsSmall k u
  small_by_multiple w u positive together = record {
    small = λ e.
        let turned = value_product (cyclotomic k) (root k e) u in
        let same = ap (λ v. value_size v) (mul_multiple (cyclotomic_ring k) w (root k e) u) ∙ size_weighted k w turned in
        let all = together.small e in
        let one : 1 * value_size turned ≤ w * value_size turned = mul-le-mul_right (value_size turned) (omega (arith, positive)) in
        omega (arith, all, same, one);
  }

  -- the conjugate of a multiple by a root of unity
  conjugate_turned : (e : ℕ) (u : CyclotomicValue k)
      → conjugate k (value_product (cyclotomic k) (root k e) u) ≡ value_product (cyclotomic k) (root k ((k - 1) * e)) (conjugate k u)
  conjugate_turned e u =
      galois_product k entry (k - 1) (conjugation_prime k entry) (root k e) u
      ∙ ap (λ r. value_product (cyclotomic k) r (conjugate k u)) (galois_root k entry (k - 1) (conjugation_prime k entry) e)

  module _ (e : ℕ) (u v : CyclotomicValue k) (is : v ≡ value_product (cyclotomic k) (root k e) u) (small : IsSmall k (conjugate k u)) where
    -- the conjugate of a multiple by a root of unity is small where that of the value is,
    pub turned_size : value_size (conjugate k v) < 2 ^ 54
    turned_size = subst (λ w. value_size w < 2 ^ 54) (sym (ap (conjugate k) is ∙ conjugate_turned e u)) (small.small ((k - 1) * e))

    -- and fits,
    pub turned_conjugate_fits : value_fits (conjugate k v) ≡ true
    unfolding value_fits
    turned_conjugate_fits = le-leb (value_size (conjugate k v)) greatest_magnitude (omega (arith, turned_size))

    -- and so does the multiple
    pub turned_fits : value_fits v ≡ true
    unfolding value_fits
    turned_fits =
        let back = ap (λ w. value_size w) (conjugate_conjugate k entry v) in
        let image = size_image k entry (k - 1) (conjugate k v) in
        let few : phi_of k * value_size (conjugate k v) ≤ 42 * value_size (conjugate k v) =
        mul-le-mul_right (value_size (conjugate k v)) (conductor_bounds k entry).2 in
        le-leb (value_size v) greatest_magnitude (omega (arith, turned_size, back, image, few))

-- values below 2^54 fit together
pub small_together : (k : ℕ) (u v : CyclotomicValue k) → value_size u < 2 ^ 54 → value_size v < 2 ^ 54 → product_fits u v ≡ true
unfolding product_fits
small_together k u v first second =
    let left : value_size u ≤ 2 ^ 54 - 1 = omega (arith, first) in
    let right : value_size v ≤ 2 ^ 54 - 1 = omega (arith, second) in
    let most = mul-le-mul left right in
    lt-ltb (value_size u * value_size v) (2 ^ 108) (omega (arith, most))
