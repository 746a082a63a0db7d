use Rattle.std.proofs.Common.{rules, refl, arith}
use Rattle.cocycle_make.proofs.Lawful.{trivial_lawful}
use Rattle.cocycle_make.proofs.Made.{made}
use Rattle.cocycle_make.proofs.makers.trivial.Goals as goal

pub from_lawful-requires-clause-lawful : goal.from_lawful-requires-clause-lawful
from_lawful-requires-clause-lawful c =
    made c.args.group c.args.group c.args.roots c.args.roots c.order.result c.in_ok-exponents.exponents (λ x y z. 0) (λ x y z. 0) refl refl c.order.ensures.order refl
    (c.in_ok-exponents.ensures.exponents (λ x y z. 0) (search rules))
    (trivial_lawful c.args.group c.args.roots c.order.ensures.group (omega (arith, c.requires.roots.from_one)))
