-- The worked twist is one.
use Rattle.table_check.proofs.Names.{◌≡◌, ◌<◌, ℕ, None, refl, sym, ◌∙◌, lit<, lit≤, arith, subst, slice_index, [], ◌∷◌, phase, IsTwist}
use Rattle.std.proofs.Math.Nat.{mod-one}
use Rattle.group_table.specs.Group.{group_fault}
use Rattle.scan.specs.First.{first, all_below}
use Rattle.table_check.specs.Instances.{one_twist}

lawful : group_fault one_twist.group ≡ None
unfolding group_fault first all_below
lawful = refl

-- the only number below 1
only : (p : ℕ) → p < 1 → p ≡ 0
only p below = omega (arith, below)

pub one_is_twist : IsTwist one_twist
unfolding first all_below
one_is_twist = record {
  group = record { square = refl; lawful = lawful };
  small = record { from_one = lit≤ tt; to_sixty = lit≤ tt };
  count = refl;
  ascending = λ p r less below. absurd (omega (arith, less, below));
  holds_at = (0, lit< tt, refl);
  modulus = record { from_one = lit≤ tt; to_most = lit≤ tt };
  square = refl;
  below = λ i inside. subst (λ j. slice_index (0 ∷ []) j < 1) (sym (only i inside)) (lit< tt);
  cocycle = record {
    law = λ p q r p_below q_below r_below. record { same = mod-one _ ∙ sym (mod-one _) };
    at_identity_left = λ p below. subst (λ q. phase one_twist 0 q ≡ 0) (sym (only p below)) refl;
    at_identity_right = λ p below. subst (λ q. phase one_twist q 0 ≡ 0) (sym (only p below)) refl;
  };
}
