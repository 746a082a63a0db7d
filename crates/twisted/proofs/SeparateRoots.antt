-- Roots of unity that tell exponents apart.
use Rattle.twisted.proofs.Names.{◌≡◌, ◌≢◌, ℕ, zero, suc, ◌+◌, ◌*◌, ◌/◌, ◌%◌, ◌<◌, refl, sym, ◌∙◌, ap, arith, zero-mul, suc-mul, mul-suc, add-mul, div-add-mod, mod-lt, mod-eq_of_lt, mul-add-mod_self_left, mul-lt-mul_of_pos_left, CommRing, power, Roots, RootOfUnity, nought_mul, one_mul, sum_ext, sum_constant, sum_mul, power_zero, power_add}
use Rattle.algebra.proofs.RootLaws.{power_same}

-- only nought stays fixed under a root that isn't one
pub record Separates {A : Type 0} (R : CommRing A) {n : ℕ} (B : Roots R n) : Type 0 where
  pub fixed : (v : ℕ) (x : A) → v % n ≢ 0 → R.mul (B.root v) x ≡ x → x ≡ R.nought

q_positive : (m n q : ℕ) → 0 < m → m ≡ q * n → 0 < q
q_positive m n zero h e = let none : 0 * n ≡ 0 = zero-mul n in omega arith
q_positive m n (suc q) h e = omega arith

factor_nought : (q v : ℕ) → 0 < q → q * v ≡ 0 → v ≡ 0
factor_nought q zero p e = refl
factor_nought q (suc v) p e = let parts : q * suc v ≡ q * v + q = mul-suc q v in absurd (omega arith)

multiple_mod_parts : (n q v d r : ℕ) → 0 < q → n * d + r ≡ v → r < n → (v * q) % (q * n) ≡ q * r
multiple_mod_parts n q v d r p parts below =
    let regroup : v * q ≡ q * n * d + q * r = rw (← parts) (omega arith) in
    let small : q * r < q * n = mul-lt-mul_of_pos_left below p in
    ap (λ k. k % (q * n)) regroup ∙ mul-add-mod_self_left (q * n) d (q * r) ∙ mod-eq_of_lt small

-- over a ring with a root of unity, the roots with exponents modulo a divisor of its order tell exponents apart
module _ {A : Type 0} (R : CommRing A) {m : ℕ} (U : RootOfUnity R m) where
  -- what a power of the root fixes is nought
  power_fixed : (e : ℕ) (x : A) → e % m ≢ 0 → R.mul (power R U.root e) x ≡ x → x ≡ R.nought
  power_fixed e x off fixed =
      U.cancel x
      (sym (sum_constant R m x)
      ∙ sum_ext R m (λ j. x) (λ j. R.mul (power R U.root (j * e)) x) (λ j below. sym (still j))
      ∙ sym (sum_mul R m (λ j. power R U.root (j * e)) x)
      ∙ ap (λ a. R.mul a x) (U.sum_vanishes e off)
      ∙ nought_mul R x)
    where
      still : (j : ℕ) → R.mul (power R U.root (j * e)) x ≡ x
      still zero = rw (zero-mul, power_zero R U.root) (one_mul R x)
      still (suc j) =
          rw (suc-mul, power_add R U.root (j * e) e) (R.mul_assoc (power R U.root (j * e)) (power R U.root e) x)
          ∙ ap (R.mul (power R U.root (j * e))) fixed ∙ still j

  module _ (n q : ℕ) (positive : 0 < n) (whole : m ≡ q * n) where
    -- (v q) mod (q n) = q (v mod n)
    pub multiple_mod : (v : ℕ) → (v * q) % m ≡ q * (v % n)
    multiple_mod v =
        let parts : n * (v / n) + v % n ≡ v = div-add-mod v n in
        let below : v % n < n = mod-lt v positive in
        ap (λ k. (v * q) % k) whole ∙ multiple_mod_parts n q v (v / n) (v % n) (q_positive m n q U.positive whole) parts below

    -- the roots z^(v q), with exponents modulo n
    abbrev pub scaled_roots : Roots R n
    scaled_roots = record {
      root = λ v. power R U.root (v * q);
      root_zero = ap (power R U.root) (zero-mul q) ∙ power_zero R U.root;
      root_add = λ v w. ap (power R U.root) (add-mul v w q) ∙ power_add R U.root (v * q) (w * q);
      root_same = λ v w h.
          power_same R U.root m U.cycle (v * q) (w * q) (record { same = multiple_mod v ∙ ap (λ k. q * k) h.same ∙ sym (multiple_mod w) });
    }

    pub scaled_roots_separate : Separates R scaled_roots
    scaled_roots_separate = record {
      fixed = λ v x off still.
          power_fixed (v * q) x
          (λ nought. off (factor_nought q (v % n) (q_positive m n q U.positive whole) (sym (multiple_mod v) ∙ nought)))
          still;
    }
