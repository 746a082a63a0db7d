-- A good table gives orthogonal central idempotents that add up to one.
use Rattle.table_check.proofs.Names.{◌≡◌, ℕ, ◌<◌, ◌%◌, ◌==◌, Bool, true, false, refl, ap, sym, ◌∙◌, eq-eqb, ne_eqb, identity_of, is_conductor, cyclotomic, value_product, CyclotomicValue, cyclotomic_ring, TwistedSubgroup, size, phase, IsTwist, left_quotient, exponent, Characters, given, whole, where_so, right_quotient, product_term, product_sum, IsGood}
use Rattle.algebra.specs.Sums.{pick}
use Rattle.algebra.proofs.SumLaws.{sum_ext}
use Rattle.cyclotomic.proofs.Orthogonality.{x_root, power-root}
use Rattle.twisted.specs.Algebra.{twisted_product, IsCentral}
use Rattle.twisted.specs.Algebra as algebra
use Rattle.twisted.proofs.AlgebraLaws.{twist_roots, on_places, central_from_places}
use Rattle.twisted.proofs.CentreLaws.{times_unit, unit_times}
use Rattle.twisted.proofs.Translation.{places, place_group, phase_at, kappa_at, phases_cocycle, kappa_phase, some_root}
use Rattle.table_check.proofs.WholeValues.{conjugate_apart}
use Rattle.table_check.specs.Idempotents.{row_element, row_degree, AreIdempotents, GoodTablesGiveIdempotents}

module _ (k : ℕ) (entry : is_conductor k ≡ true) (s : TwistedSubgroup) (twist : IsTwist s) (divides : k % s.modulus ≡ 0) (table : Characters k) (good : IsGood s table) where
  -- the product of two rows' elements is the sum that the check forms
  product_is : (i j x : ℕ) → twisted_product (cyclotomic_ring k) (x_root k entry) s (row_element s table i) (row_element s table j) x ≡ (product_sum s table i j x).value
  product_is i j x =
      sum_ext (cyclotomic_ring k) (size s)
      (algebra.product_term (cyclotomic_ring k) (x_root k entry) s (row_element s table i) (row_element s table j) x)
      (λ y. (product_term s table i j x y).value)
      (λ y below. ap (λ r. value_product (cyclotomic k) r (value_product (cyclotomic k) (row_element s table i y) (row_element s table j (left_quotient s y x))))
      (power-root (cyclotomic k) (exponent k s (phase s y (left_quotient s y x)))))

  central : (i : ℕ) → i < table.count → IsCentral (cyclotomic_ring k) (x_root k entry) s (row_element s table i)
  central i row =
      central_from_places (cyclotomic_ring k) (x_root k entry) s twist divides (row_element s table i) (record {
        commutes = λ c v.
            times_unit (cyclotomic_ring k) (places s twist) (place_group s twist) (some_root s twist) (twist_roots (cyclotomic_ring k) (x_root k entry) s twist divides)
            (phase_at s twist) (kappa_at s twist) (phases_cocycle s twist) (kappa_phase s twist) (on_places (cyclotomic_ring k) (x_root k entry) s twist divides (row_element s table i)) c v
            ∙ ap (λ r. value_product (cyclotomic k) r (row_element s table i (right_quotient s v.value c.value)))
            (power-root (cyclotomic k) (exponent k s (phase s (right_quotient s v.value c.value) c.value)))
            ∙ sym (good.central i c.value v.value row c.below v.below)
            ∙ ap (λ r. value_product (cyclotomic k) r (row_element s table i (left_quotient s c.value v.value)))
            (sym (power-root (cyclotomic k) (exponent k s (phase s c.value (left_quotient s c.value v.value)))))
            ∙ sym (unit_times (cyclotomic_ring k) (places s twist) (place_group s twist) (some_root s twist) (twist_roots (cyclotomic_ring k) (x_root k entry) s twist divides)
            (phase_at s twist) (kappa_at s twist) (phases_cocycle s twist) (kappa_phase s twist) (on_places (cyclotomic_ring k) (x_root k entry) s twist divides (row_element s table i)) c v);
      })

  picked : (b : Bool) (u : CyclotomicValue k) → (where_so k b (given k u)).value ≡ pick (cyclotomic_ring k) b u
  unfolding pick
  picked true u = refl
  picked false u = refl

  pub idempotents : AreIdempotents s table entry
  idempotents = record {
    count = good.count;
    degree = good.degree;
    central = central;
    idempotent = λ i x row place.
        ap (value_product (cyclotomic k) (row_degree s table i)) (product_is i i x) ∙ rw (eq-eqb i i refl) at (good.product i i x row row place);
    orthogonal = λ i j x row other place apart. product_is i j x ∙ rw (ne_eqb i j apart) at (good.product i j x row other place);
    nonzero = λ i row. conjugate_apart k entry (good.degree i row).degree (row_degree s table i) (good.degree i row).positive (good.degree i row).same;
    complete = λ x place. good.sum x place ∙ picked (x == identity_of s.group) (whole k (size s));
  }

pub good_tables_give_idempotents : GoodTablesGiveIdempotents
good_tables_give_idempotents k entry s twist divides table good = idempotents k entry s twist divides table good
