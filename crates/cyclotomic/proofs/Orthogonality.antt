-- x is a root of unity of order K modulo Phi_K: whole multiples cancel, and sums of its powers over all exponents vanish.
use Rattle.std.proofs.Math.Nat.{div-add-mod}
use Rattle.cyclotomic.proofs.Names.{◌≡◌, ℕ, zero, suc, ◌+◌, ◌*◌, ◌%◌, ◌/◌, ◌<◌, ◌≢◌, List, [], ◌∷◌, length, true, refl, sym, ap, ◌∙◌, arith, replicate, inl, inr, mod-lt, mul_comm, zero-mul, suc-mul, cases_eq, ℤ, pos, ◌+ℤ◌, ◌*ℤ◌, ◌↔◌, ap₂, up, down, same_in, product_is, sum_below, multiple, power, sum_suc, sum_first, sum_ext, sum_constant, mul_sum, multiple_zero, multiple_suc, mul_multiple, power_zero, power_suc, power_add, power_mul, one_power, zeros, scaled, at_power, degree, remainder, cyclotomic, is_conductor, Value, value_sum, value_multiple, value_nought, value_of, value_one, value_product, value_root, map_power, iterate, act, act-nil, act-cons, act-at_power, remainder_ring, same_value, value_shift, times_x, product-of}
use Rattle.std.proofs.lemmas.Nat.{mul-mod_second}
use Rattle.algebra.specs.Structures.{CommRing}
use Rattle.algebra.specs.Roots.{RootOfUnity}
use Rattle.algebra.proofs.RingLaws.{add_cancel, nought_mul, product_rules}
use Rattle.algebra.proofs.RootLaws.{power_mod, fixed_again}
use Rattle.cyclotomic.proofs.Images.{root-zero, root-sum, root-mod, product-root}
use Rattle.cyclotomic.proofs.Checks.{head_of, one_is_one, powers_of_multiples, conductor_positive, some_divisor}
use Rattle.cyclotomic.proofs.Fields.{from_listed, cyclotomic_period, cyclotomic_sums}

-- ---- whole multiples
zero_factor : (d n : ℕ) → 0 < d → d * n ≡ 0 → n ≡ 0
zero_factor zero n h e = absurd (omega arith)
zero_factor (suc d) n h e = omega (arith, e)

cancel_factor : (d : ℕ) (a : ℤ) → 0 < d → pos d *ℤ a ≡ pos 0 → a ≡ pos 0
cancel_factor d a h e =
    let product = product_is (pos d) a in
    let up_is : d * up a ≡ 0 = omega (arith, product.0, ap up e) in
    let down_is : d * down a ≡ 0 = omega (arith, product.1, ap down e) in
    same_in a (pos 0) (omega (arith, zero_factor d (up a) h up_is, zero_factor d (down a) h down_is))

cancel_scaled : (d : ℕ) (p : List ℤ) → 0 < d → scaled (pos d) p ≡ zeros (length p) → p ≡ zeros (length p)
unfolding scaled
cancel_scaled d [] h e = refl
cancel_scaled d (a ∷ p) h e =
    let first : pos d *ℤ a ≡ pos 0 = cc in
    let rest : scaled (pos d) p ≡ zeros (length p) = cc in
    ap₂ (λ x y. x ∷ y) (cancel_factor d a h first) (cancel_scaled d p h rest)

-- a whole multiple, by a number from 1, that is 0 comes from 0
pub cancel_multiple : {n : ℕ} (d : ℕ) (u : Value n) → 0 < d → value_multiple (pos d) u ≡ value_nought → u ≡ value_nought
unfolding value_multiple value_nought
cancel_multiple {n} d u h e =
    let same = ap zeros u.count in
    same_value _ _ (cancel_scaled d u.coefficients h (ap (λ v. v.coefficients) e ∙ sym same) ∙ same)

module _ (m : List ℤ) where
  pub multiple-is : (d : ℕ) (u : Value (degree m)) → multiple (remainder_ring m) d u ≡ value_multiple (pos d) u
  multiple-is zero u = multiple_zero (remainder_ring m) u ∙ sym ((times_x m).scale_zero u)
  multiple-is (suc d) u =
      let M = times_x m in
      let e : pos d +ℤ pos 1 ≡ pos (suc d) = ap pos (omega arith) in
      multiple_suc (remainder_ring m) d u
      ∙ ap₂ value_sum (multiple-is d u) (sym (M.scale_one u))
      ∙ sym (M.scale_sum (pos d) (pos 1) u)
      ∙ ap (λ c. value_multiple c u) e

  -- powers of x
  pub power-root : (v : ℕ) → power (remainder_ring m) (value_root m 1) v ≡ value_root m v
  power-root zero = power_zero (remainder_ring m) (value_root m 1) ∙ sym (root-zero m)
  power-root (suc v) =
      let e : v + 1 ≡ suc v = omega arith in
      power_suc (remainder_ring m) (value_root m 1) v
      ∙ ap (λ u. value_product m u (value_root m 1)) (power-root v)
      ∙ sym (root-sum m v 1) ∙ ap (value_root m) e

  -- the powers x^0, x^g, .., d of them, times what x^g doesn't change
  pub fixed_multiple : (g d : ℕ) (u : Value (degree m)) → value_product m (value_root m g) u ≡ u → act (map_power (times_x m) g) (replicate d (pos 1)) u ≡ multiple (remainder_ring m) d u
  fixed_multiple g zero u fixed = act-nil (map_power (times_x m) g) u ∙ sym (multiple_zero (remainder_ring m) u)
  fixed_multiple g (suc d) u fixed =
      let R = remainder_ring m in
      let M = times_x m in
      act-cons (map_power M g) (pos 1) (replicate d (pos 1)) u
      ∙ ap₂ (λ x y. value_sum x (iterate (value_shift m) g y)) (M.scale_one u) (fixed_multiple g d u fixed)
      ∙ ap (value_sum u) (sym (product-root m g (multiple R d u)) ∙ mul_multiple R d (value_root m g) u ∙ ap (multiple R d) fixed)
      ∙ R.add_comm u (multiple R d u)
      ∙ sym (multiple_suc R d u)

-- ---- the sum over all exponents
module _ {A : Type 0} (R : CommRing A) (z : A) (n e : ℕ) (cycle : power R z n ≡ R.one) where
  -- the sum of z^(j e) over the j below n
  power_sum : A
  power_sum = sum_below R n (λ j. power R z (j * e))

  sum_is_fixed : R.mul (power R z e) power_sum ≡ power_sum
  unfolding power_sum
  sum_is_fixed =
      let f : ℕ → A = λ j. power R z (j * e) in
      let last : f n ≡ R.one = power_mul R z n e ∙ ap (λ y. power R y e) cycle ∙ one_power R e in
      let first : f 0 ≡ R.one = ap (power R z) (zero-mul e) ∙ power_zero R z in
      let moved : R.mul (power R z e) (sum_below R n f) ≡ sum_below R n (λ j. f (suc j)) =
      simp (mul_sum, suc-mul, power_add, product_rules, R) in
      let both : R.add R.one (sum_below R n (λ j. f (suc j))) ≡ R.add R.one (sum_below R n f) =
      ap (λ y. R.add y (sum_below R n (λ j. f (suc j)))) (sym first) ∙ sym (sum_first R n f)
      ∙ sum_suc R n f ∙ ap (R.add (sum_below R n f)) last ∙ R.add_comm (sum_below R n f) R.one in
      moved ∙ add_cancel R R.one (sum_below R n (λ j. f (suc j))) (sum_below R n f) both

  pub sum_is_fixed_modulo : (a : ℕ) → R.mul (power R z ((a * e) % n)) (sum_below R n (λ j. power R z (j * e))) ≡ sum_below R n (λ j. power R z (j * e))
  unfolding power_sum
  sum_is_fixed_modulo a = ap (λ y. R.mul y power_sum) (sym (power_mod R z n cycle (a * e))) ∙ fixed_again R z e power_sum sum_is_fixed a

positive_quotient : (k g d : ℕ) → 0 < k → g * d ≡ k → 0 < d
positive_quotient k g zero h e = absurd (omega (arith, e))
positive_quotient k g (suc d) h e = omega arith

module _ (k : ℕ) (entry : is_conductor k ≡ true) where
  pub x_cycle : power (remainder_ring (cyclotomic k)) (value_root (cyclotomic k) 1) k ≡ value_one (cyclotomic k)
  x_cycle = power-root (cyclotomic k) k ∙ cyclotomic_period k entry

  -- a value that x^g doesn't change, for a proper divisor g of k, is 0
  fixed_is_nought : (g : ℕ) (u : Value (degree (cyclotomic k))) → g < k → k % g ≡ 0 → value_product (cyclotomic k) (value_root (cyclotomic k) g) u ≡ u → u ≡ value_nought
  unfolding powers_of_multiples
  fixed_is_nought g u small divides fixed =
      let m = cyclotomic k in
      let R = remainder_ring m in
      let M = times_x m in
      let d = k / g in
      let positive : 0 < k = conductor_positive k entry in
      let whole : g * d ≡ k = omega (arith, div-add-mod k g, divides) in
      let ones = replicate d (pos 1) in
      let vanishes : value_multiple (pos d) u ≡ value_nought =
      sym (multiple-is m d u) ∙ sym (fixed_multiple m g d u fixed) ∙ sym (act-at_power M g ones u)
      ∙ sym (product-of m (at_power g ones) u)
      ∙ ap (λ v. value_product m v u) (cyclotomic_sums k entry g small divides)
      ∙ nought_mul R u in
      cancel_multiple d u (positive_quotient k g d positive whole) vanishes

  pub x_sum_vanishes : (e : ℕ) → e % k ≢ 0 → sum_below (remainder_ring (cyclotomic k)) k (λ j. power (remainder_ring (cyclotomic k)) (value_root (cyclotomic k) 1) (j * e)) ≡ value_nought
  x_sum_vanishes e apart =
      let m = cyclotomic k in
      let R = remainder_ring m in
      let z = value_root m 1 in
      let total = sum_below R k (λ j. power R z (j * e)) in
      let positive : 0 < k = conductor_positive k entry in
      let reached = some_divisor k entry (e % k) (mod-lt e positive) apart in
      let a = reached.0 in
      let g = (a * e) % k in
      let divides : k % g ≡ 0 = ap (λ n. k % n) (sym (mul-mod_second a e k)) ∙ reached.1 in
      let fixed : value_product m (value_root m g) total ≡ total =
      ap (λ v. value_product m v total) (sym (power-root m g)) ∙ sum_is_fixed_modulo R z k e x_cycle a in
      fixed_is_nought g total (mod-lt (a * e) positive) divides fixed

  one_is_not_nought : value_one (cyclotomic k) ≡ value_nought → ⊥
  unfolding value_of value_nought head_of
  one_is_not_nought e =
      let head = from_listed k entry (λ m. head_of (remainder m (pos 1 ∷ [])) ≡ pos 1) (one_is_one k entry) in
      let none : head_of (zeros (degree (cyclotomic k))) ≡ pos 0 = nothing (degree (cyclotomic k)) in
      let clash = sym head ∙ ap (λ v. head_of v.coefficients) e ∙ none in
      cc
    where
      nothing : (n : ℕ) → head_of (zeros n) ≡ pos 0
      nothing zero = refl
      nothing (suc n) = refl

  -- where x^v is 1, so are its powers, and K of them add up to 0 unless K divides v
  one_only_there : (v : ℕ) → value_root (cyclotomic k) v ≡ value_one (cyclotomic k) → v % k ≡ 0
  one_only_there v is =
      let m = cyclotomic k in
      let R = remainder_ring m in
      let z = value_root m 1 in
      let each : (j : ℕ) → power R z (j * v) ≡ R.one =
      λ j. ap (power R z) (mul_comm j v) ∙ power_mul R z v j
      ∙ ap (λ y. power R y j) (power-root m v ∙ is) ∙ one_power R j in
      elim (cases_eq (v % k) 0) [
        | inl divides ↦ divides
        | inr apart ↦ absurd (one_is_not_nought
            (cancel_multiple k R.one (conductor_positive k entry)
            (sym (multiple-is m k R.one) ∙ sym (sum_constant R k R.one)
            ∙ sum_ext R k (λ j. R.one) (λ j. power R z (j * v)) (λ j h. sym (each j))
            ∙ x_sum_vanishes v apart)))
      ]

  pub x_order : (v : ℕ) → (value_root (cyclotomic k) v ≡ value_one (cyclotomic k)) ↔ (v % k ≡ 0)
  x_order v = (
    one_only_there v,
    λ divides. root-mod (cyclotomic k) k (cyclotomic_period k entry) (conductor_positive k entry) v
        ∙ ap (value_root (cyclotomic k)) divides ∙ root-zero (cyclotomic k),
  )

-- x as a root of unity in the ring modulo Phi_K
abbrev pub x_root : (k : ℕ) → is_conductor k ≡ true → RootOfUnity (remainder_ring (cyclotomic k)) k
x_root k entry = record {
  root = value_root (cyclotomic k) 1;
  positive = conductor_positive k entry;
  cycle = x_cycle k entry;
  sum_vanishes = x_sum_vanishes k entry;
  cancel = λ u e. cancel_multiple k u (conductor_positive k entry) (sym (multiple-is (cyclotomic k) k u) ∙ e);
}
