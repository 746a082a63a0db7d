use Rattle.named_cocycles.proofs.Names.{◌*◌, rules, refl, arith, made, dihedral_group, reflections_value}
use Rattle.named_cocycles.proofs.Named.{is_small}
use Rattle.named_cocycles.proofs.Signs.{reflections_lawful}
use Rattle.named_cocycles.proofs.reflections.reflections.Goals as goal

pub from_lawful-requires-clause-lawful : goal.from_lawful-requires-clause-lawful
from_lawful-requires-clause-lawful c =
    let n = c.args.n in
    let (accepted, built) = c.in_ok-group.ensures.made in
    made c.in_ok-group.group (dihedral_group n) 2 2 c.order-order.result c.in_ok-exponents.exponents (reflections_value n) (reflections_value n) built refl
    c.order-order.ensures.order refl (c.in_ok-exponents.ensures.exponents (reflections_value n) (search rules))
    (reflections_lawful n (omega (arith, (is_small (2 * n) accepted).from_one)))
