-- The worked twists are twists, by computing.
use Rattle.twisted.proofs.Names.{◌≡◌, ℕ, ◌+◌, ◌*◌, ◌%◌, ◌<◌, Bool, true, ◌&&◌, nat_eq, nat_lt, length, get_or, refl, lit<, lit≤, eqb-true, ltb-true, all_below-at, and_true, IsGroup, TwistedSubgroup, size, element, phase, IsTwist}
use Rattle.scan.specs.First.{first, all_below}
use Rattle.group_table.specs.Group.{IsSmall}
use Rattle.twisted.specs.Twist.{IsModulus}
use Rattle.group_table.specs.Group.{product, identity_of, group_fault}
use Rattle.group_table.specs.Numbers.{passing_below}
use Rattle.classes.specs.Conjugacy.{conjugate, representative_of, other_representatives}
use Rattle.twisted.specs.Regular.{kappa, is_regular, regular_representatives, rank}
use Rattle.twisted.specs.Instances.{four_twist, permutation_twist, FourIsTwist, PermutationsAreTwist, FourRegular, PermutationsRegular}

-- the laws of a 2-cocycle as one test
unfoldable pub law_holds : TwistedSubgroup → ℕ → ℕ → ℕ → Bool
law_holds s p q r = nat_eq ((phase s p q + phase s (product s.group p q) r) % s.modulus) ((phase s p (product s.group q r) + phase s q r) % s.modulus)

unfoldable pub laws_hold : TwistedSubgroup → Bool
laws_hold s = all_below (size s) (λ p. all_below (size s) (λ q. all_below (size s) (law_holds s p q)))

unfoldable pub is_normal : TwistedSubgroup → Bool
is_normal s = all_below (size s) (λ p. nat_eq (phase s (identity_of s.group) p) 0 && nat_eq (phase s p (identity_of s.group)) 0)

unfoldable pub ascends : TwistedSubgroup → Bool
ascends s = all_below (size s) (λ r. all_below r (λ p. nat_lt (element s p) (element s r)))

unfoldable pub phases_fit : TwistedSubgroup → Bool
phases_fit s = all_below (length s.phases) (λ i. nat_lt (get_or s.phases i 0) s.modulus)

-- a group with phases that pass the tests is a twist
module _ (s : TwistedSubgroup) (laws : laws_hold s ≡ true) (normal : is_normal s ≡ true) (up : ascends s ≡ true) (fit : phases_fit s ≡ true) where
  pub twist_of_tests : IsGroup s.group → IsSmall s.group.order → length s.elements ≡ s.group.order → (p : ℕ) × (p < size s) × (element s p ≡ s.at) → IsModulus s.modulus
      → length s.phases ≡ s.group.order * s.group.order → IsTwist s
  unfolding laws_hold law_holds is_normal ascends phases_fit
  twist_of_tests group small count holds_at modulus square = record {
    group = group;
    small = small;
    count = count;
    ascending = λ p r less below. ltb-true _ _ (all_below-at r p _ (all_below-at (size s) r _ up below) less);
    holds_at = holds_at;
    modulus = modulus;
    square = square;
    below = λ i below. ltb-true _ _ (all_below-at (length s.phases) i _ fit below);
    cocycle = record {
      law = λ p q r p_below q_below r_below.
          record { same = eqb-true _ _ (all_below-at (size s) r _ (all_below-at (size s) q _ (all_below-at (size s) p _ laws p_below) q_below) r_below) };
      at_identity_left = λ p below. eqb-true _ _ (and_true _ _ (all_below-at (size s) p _ normal below)).0;
      at_identity_right = λ p below. eqb-true _ _ (and_true _ _ (all_below-at (size s) p _ normal below)).1;
    };
  }

pub four_is_twist : FourIsTwist
unfolding laws_hold law_holds is_normal ascends phases_fit group_fault first all_below
four_is_twist =
    twist_of_tests four_twist refl refl refl refl (record { square = refl; lawful = refl }) (record { from_one = lit≤ tt; to_sixty = lit≤ tt }) refl
    (0, lit< tt, refl) (record { from_one = lit≤ tt; to_most = lit≤ tt }) refl

pub permutations_are_twist : PermutationsAreTwist
unfolding laws_hold law_holds is_normal ascends phases_fit group_fault first all_below
permutations_are_twist =
    twist_of_tests permutation_twist refl refl refl refl (record { square = refl; lawful = refl }) (record { from_one = lit≤ tt; to_sixty = lit≤ tt }) refl
    (3, lit< tt, refl) (record { from_one = lit≤ tt; to_most = lit≤ tt }) refl

pub four_regular : FourRegular
unfolding kappa is_regular regular_representatives rank conjugate representative_of other_representatives passing_below first all_below
four_regular = (refl, refl, refl, refl)

pub permutations_regular : PermutationsRegular
unfolding kappa is_regular regular_representatives rank conjugate representative_of other_representatives passing_below first all_below
permutations_regular = (refl, refl, refl, refl)
