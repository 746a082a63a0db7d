-- The worked twists are twists, by computing.
use Rattle.central_ext.proofs.Names.{BitsExtended, BitsIsTwist, PlainIsTwist, TwoExtended, TwoIsTwist, all_below, are_conjugate, bits_twist, class_number, first, first_of_class, group_fault, lit<, lit≤, passing_below, plain_twist, power, power_phase, refl, two_twist}
use Rattle.twisted.proofs.InstanceChecks.{law_holds, laws_hold, is_normal, ascends, phases_fit, twist_of_tests}

pub two_is_twist : TwoIsTwist
unfolding laws_hold law_holds is_normal ascends phases_fit group_fault first all_below
two_is_twist =
    twist_of_tests two_twist refl refl refl refl (record { square = refl; lawful = refl }) (record { from_one = lit≤ tt; to_sixty = lit≤ tt }) refl
    (1, lit< tt, refl) (record { from_one = lit≤ tt; to_most = lit≤ tt }) refl

pub plain_is_twist : PlainIsTwist
unfolding laws_hold law_holds is_normal ascends phases_fit group_fault first all_below
plain_is_twist =
    twist_of_tests plain_twist refl refl refl refl (record { square = refl; lawful = refl }) (record { from_one = lit≤ tt; to_sixty = lit≤ tt }) refl
    (0, lit< tt, refl) (record { from_one = lit≤ tt; to_most = lit≤ tt }) refl

pub bits_is_twist : BitsIsTwist
unfolding laws_hold law_holds is_normal ascends phases_fit group_fault first all_below
bits_is_twist =
    twist_of_tests bits_twist refl refl refl refl (record { square = refl; lawful = refl }) (record { from_one = lit≤ tt; to_sixty = lit≤ tt }) refl
    (1, lit< tt, refl) (record { from_one = lit≤ tt; to_most = lit≤ tt }) refl

pub two_extended : TwoExtended
unfolding class_number first_of_class are_conjugate power_phase power passing_below first all_below
two_extended = (refl, refl)

pub bits_extended : BitsExtended
unfolding are_conjugate first all_below
bits_extended = (refl, refl)
