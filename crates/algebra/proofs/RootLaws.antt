-- Powers of an element whose n-th power is one, by exponents modulo n.
use Rattle.algebra.proofs.Names.{◌≡◌, ◌≢◌, ℕ, zero, suc, ◌*◌, ◌/◌, ◌%◌, sym, ◌∙◌, ap, zero-mul, suc-mul, div-add-mod, CommRing, power, Same, RootOfUnity}
use Rattle.algebra.proofs.RingLaws.{one_mul, nought_mul}
use Rattle.algebra.proofs.SumLaws.{sum_constant, sum_ext, sum_mul, power_zero, power_add, power_mul, one_power}

module _ {A : Type 0} (R : CommRing A) (z : A) (n : ℕ) (cycle : power R z n ≡ R.one) where
  -- a power depends on the exponent modulo n alone
  pub power_mod : (v : ℕ) → power R z v ≡ power R z (v % n)
  power_mod v =
      ap (λ k. power R z k) (sym (div-add-mod v n)) ∙ power_add R z (n * (v / n)) (v % n)
      ∙ ap (λ k. R.mul k (power R z (v % n))) (power_mul R z n (v / n) ∙ ap (λ k. power R k (v / n)) cycle ∙ one_power R (v / n))
      ∙ one_mul R (power R z (v % n))

  pub power_same : (v w : ℕ) → Same n v w → power R z v ≡ power R z w
  power_same v w h = power_mod v ∙ ap (λ k. power R z k) h.same ∙ sym (power_mod w)

-- what z^e leaves as it is, each power of z^e leaves as it is
pub fixed_again : {A : Type 0} (R : CommRing A) (z : A) (e : ℕ) (x : A) → R.mul (power R z e) x ≡ x → (j : ℕ) → R.mul (power R z (j * e)) x ≡ x
fixed_again R z e x fixed zero = simp (zero-mul, power_zero, one_mul)
fixed_again R z e x fixed (suc j) = simp (suc-mul, power_add, R.mul_assoc, fixed, fixed_again R z e x fixed j)

-- what a power of z other than 1 leaves as it is, is nought
module _ {A : Type 0} (R : CommRing A) {n : ℕ} (u : RootOfUnity R n) (e : ℕ) (apart : e % n ≢ 0) (x : A) (fixed : R.mul (power R u.root e) x ≡ x) where
  pub fixed_is_nought : x ≡ R.nought
  fixed_is_nought =
      u.cancel x
      (sym (sum_constant R n x)
      ∙ sum_ext R n (λ j. x) (λ j. R.mul (power R u.root (j * e)) x) (λ j h. sym (fixed_again R u.root e x fixed j))
      ∙ sym (sum_mul R n (λ j. power R u.root (j * e)) x) ∙ ap (λ a. R.mul a x) (u.sum_vanishes e apart) ∙ nought_mul R x)
