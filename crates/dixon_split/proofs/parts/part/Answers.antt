use Rattle.prime_field.specs.Laws.Moduli.{modulus_positive}
use Rattle.dixon_split.proofs.Layers.{part_residues, part_is_element}
use Rattle.dixon_split.proofs.parts.part.Goals as goal

pub returns-clause-element : goal.returns-clause-element
returns-clause-element c = part_is_element c.args.algebra.now c.args.powers.now c.args.v c.in_ok-part.part.items c.in_ok-part.ensures.values

pub returns-clause-part : goal.returns-clause-part
returns-clause-part c = λ Z H t e P.
    part_residues c.args.algebra.now t e c.args.powers.now P Z H c.args.v (modulus_positive c.args.algebra.now.q c.args.algebra.now.listed) c.in_ok-part.part.items c.in_ok-part.ensures.values
