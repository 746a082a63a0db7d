-- The residues modulo a listed modulus: inverses, products, powers, and the root of unity that a root of Phi_K is.
use Rattle.std.proofs.Common.{◌≡◌, ◌≢◌, ℕ, ◌*◌, ◌%◌, ◌<◌, true, Some, None, sym, ap, ◌∙◌, arith, eqb-true}
use Rattle.std.proofs.Math.Nat.{mod-eq_of_lt, zero-mod}
use Rattle.std.specs.Prelude.{if◌then◌else◌}
use Rattle.algebra.specs.Below.{Below, below_equal}
use Rattle.algebra.specs.Sums.{multiple, power}
use Rattle.algebra.specs.Roots.{RootOfUnity}
use Rattle.scan.proofs.Places.{first_some}
use Rattle.std.specs.Prelude.{ℤ, List}
use Rattle.cyclotomic.specs.Division.{remainder}
use Rattle.cyclotomic.proofs.Fields.{cyclotomic_monic}
use Rattle.cyclotomic.specs.Cyclotomic.{cyclotomic}
use Rattle.cyclotomic.specs.Conductors.{is_conductor}
use Rattle.prime_field.specs.WholeNumbers.{polynomial_at}
use Rattle.prime_field.specs.Evaluation.{reduced, value_at, is_root}
use Rattle.prime_field.specs.Moduli.{is_modulus, least_root}
use Rattle.prime_field.specs.Field.{field, field_residue}
use Rattle.prime_field.specs.Laws.Moduli.{modulus_over_one, modulus_positive, where_found, inverse_means, inverse_there, product_of_zero, power_fixed}
use Rattle.prime_field.specs.Laws.Residues.{multiple_value, power_value, polynomial_value}
use Rattle.prime_field.specs.Laws.Evaluation.{value-remainder, root_of_cyclotomic}

-- ---- the least root of Phi_K
pub record IsLeastRoot (q k r : ℕ) : Type 0 where
  pub below : r < q
  pub root : value_at q r (reduced q (cyclotomic k)) ≡ 0

pub least_root_means : (q k r : ℕ) → least_root q k ≡ Some r → IsLeastRoot q k r
unfolding least_root
least_root_means q k r found =
    let f = first_some q (λ s. if is_root q (reduced q (cyclotomic k)) s then Some s else None) r found in
    let here = where_found (is_root q (reduced q (cyclotomic k)) f.place) f.place r f.here in
    let vanishes : value_at q f.place (reduced q (cyclotomic k)) ≡ 0 = eqb-true (value_at q f.place (reduced q (cyclotomic k))) 0 here.0 in
    record {
      below = omega (arith, f.below, here.1);
      root = sym (ap (λ s. value_at q s (reduced q (cyclotomic k))) here.1) ∙ vanishes;
    }

module _ (q : ℕ) (listed : is_modulus q ≡ true) where
  pub nought_value : (x : Below q) → x ≡ (field q listed).nought → x.value ≡ 0
  nought_value x e = ap (λ y. y.value) e ∙ zero-mod q

  pub value_nought : (x : Below q) → x.value ≡ 0 → x ≡ (field q listed).nought
  value_nought x e = below_equal _ _ (e ∙ sym (zero-mod q))

  -- a residue other than nought has an inverse
  pub residue_inverse : (x : Below q) → x ≢ (field q listed).nought → (y : Below q) × ((field q listed).mul x y ≡ (field q listed).one)
  residue_inverse x apart =
      let there = inverse_there q listed x.value (λ e. apart (value_nought x (sym (mod-eq_of_lt x.below) ∙ e))) in
      let means = inverse_means q x.value there.0 there.1 in
      (record { value = there.0; below = means.0 }, below_equal _ _ (means.1 ∙ sym (mod-eq_of_lt (modulus_over_one q listed))))

  -- a product is nought only where a factor is
  pub residue_product : (x y : Below q) → (field q listed).mul x y ≡ (field q listed).nought → x ≢ (field q listed).nought → y ≡ (field q listed).nought
  residue_product x y e apart =
      value_nought y
      (sym (mod-eq_of_lt y.below)
      ∙ product_of_zero q listed x.value y.value (nought_value ((field q listed).mul x y) e) (λ z. apart (value_nought x (sym (mod-eq_of_lt x.below) ∙ z))))

  -- x^q = x (Fermat 1640)
  pub residue_power : (x : Below q) → power (field q listed) x q ≡ x
  residue_power x = below_equal _ _ (power_value q (modulus_positive q listed) x q ∙ power_fixed q listed x.value x.below)

  module _ (k : ℕ) where
    -- where q doesn't divide k, only nought has a k-fold that is nought
    pub multiple_cancels : k % q ≢ 0 → (x : Below q) → multiple (field q listed) k x ≡ (field q listed).nought → x ≡ (field q listed).nought
    multiple_cancels apart x e =
        let product : (k * x.value) % q ≡ 0 = sym (multiple_value q (modulus_positive q listed) k x) ∙ nought_value (multiple (field q listed) k x) e in
        value_nought x (sym (mod-eq_of_lt x.below) ∙ product_of_zero q listed k x.value product apart)

    module _ (z : ℕ) (least : least_root q k ≡ Some z) where
      pub cyclotomic_vanishes : polynomial_at (field q listed) (field_residue q listed z) (cyclotomic k) ≡ (field q listed).nought
      cyclotomic_vanishes =
          value_nought (polynomial_at (field q listed) (field_residue q listed z) (cyclotomic k))
          (polynomial_value q (modulus_positive q listed) z (cyclotomic k) ∙ (least_root_means q k z least).root)

      -- at the root a polynomial has the value of its remainder modulo Phi_K
      pub value_of_remainder : is_conductor k ≡ true → (p : List ℤ) → polynomial_at (field q listed) (field_residue q listed z) (remainder (cyclotomic k) p) ≡ polynomial_at (field q listed) (field_residue q listed z) p
      value_of_remainder entry p = value-remainder (field q listed) (field_residue q listed z) (cyclotomic k) (cyclotomic_monic k entry) cyclotomic_vanishes p

      -- the least root of Phi_K modulo q, which doesn't divide K, is a root of unity of order K
      abbrev pub field_unit : is_conductor k ≡ true → k % q ≢ 0 → RootOfUnity (field q listed) k
      field_unit entry apart = root_of_cyclotomic (field q listed) (field_residue q listed z) k entry cyclotomic_vanishes (multiple_cancels apart)
