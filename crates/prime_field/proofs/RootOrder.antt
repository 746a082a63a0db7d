-- The order of the least root modulo q of the cyclotomic polynomial of K is K, which divides q - 1.
use Rattle.prime_field.proofs.Names.{◌≡◌, ℕ, suc, ◌-◌, ◌%◌, ◌<◌, true, sym, ap, ◌∙◌, arith, inl, inr, cases_eq, CommRing, power, RootOfUnity, mul_left_comm, power_suc, fixed_is_nought, is_modulus, field, field_residue, is_conductor, least_root, Some, ◌≢◌, modulus_positive, residue_power}
use Rattle.prime_field.specs.Laws.Field.{field_unit}
use Rattle.prime_field.proofs.PolynomialValues.{one_apart}

-- what a root of unity doesn't change from one power to the next is 1
module _ {A : Type 0} (R : CommRing A) (z : A) (n : ℕ) (positive : 0 < n) (cycle : power R z n ≡ R.one) where
  pub one_of_fixed : (x : A) → R.mul x z ≡ z → x ≡ R.one
  one_of_fixed x fixed =
      let before : suc (n - 1) ≡ n = omega arith in
      let w = power R z (n - 1) in
      let inverse : R.mul w z ≡ R.one = sym (power_suc R z (n - 1)) ∙ ap (power R z) before ∙ cycle in
      sym (R.mul_one x) ∙ ap (R.mul x) (sym inverse) ∙ mul_left_comm R x w z ∙ ap (R.mul w) fixed ∙ inverse

module _ (q : ℕ) (listed : is_modulus q ≡ true) where
  module _ (k : ℕ) (u : RootOfUnity (field q listed) k) where
    -- a power of the root is 1 only where the exponent is a multiple of k
    pub order_divides : (e : ℕ) → power (field q listed) u.root e ≡ (field q listed).one → e % k ≡ 0
    order_divides e one_power = elim (cases_eq (e % k) 0) [
      | inl multiple ↦ multiple
      | inr apart ↦
          absurd
          (one_apart q listed
          (fixed_is_nought (field q listed) u e apart (field q listed).one ((field q listed).mul_one (power (field q listed) u.root e) ∙ one_power)))
    ]

    -- so k divides q - 1
    pub order_divides_units : (q - 1) % k ≡ 0
    order_divides_units =
        let F = field q listed in
        let before : suc (q - 1) ≡ q = omega (arith, modulus_positive q listed) in
        let fixed : F.mul (power F u.root (q - 1)) u.root ≡ u.root = sym (power_suc F u.root (q - 1)) ∙ ap (power F u.root) before ∙ residue_power q listed u.root in
        order_divides (q - 1) (one_of_fixed F u.root k u.positive u.cycle (power F u.root (q - 1)) fixed)

  -- the least root of Phi_K
  module _ (k r : ℕ) (entry : is_conductor k ≡ true) (apart : k % q ≢ 0) (least : least_root q k ≡ Some r) where
    pub root_cycle : power (field q listed) (field_residue q listed r) k ≡ (field q listed).one
    root_cycle = (field_unit q listed k r least entry apart).cycle

    pub root_order : (e : ℕ) → power (field q listed) (field_residue q listed r) e ≡ (field q listed).one → e % k ≡ 0
    root_order = order_divides k (field_unit q listed k r least entry apart)

    pub root_divides : (q - 1) % k ≡ 0
    root_divides = order_divides_units k (field_unit q listed k r least entry apart)
