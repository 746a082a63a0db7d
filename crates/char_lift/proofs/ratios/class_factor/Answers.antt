use Rattle.prime_field.specs.Laws.Moduli.{modulus_positive}
use Rattle.char_lift.proofs.ratios.class_factor.Goals as goal

pub returns-then-not-is_regular-clause-below : goal.returns-then-not-is_regular-clause-below
returns-then-not-is_regular-clause-below c = modulus_positive c.args.powers.now.q c.args.powers.now.listed
