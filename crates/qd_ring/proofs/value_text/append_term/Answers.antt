use Rattle.qd_ring.proofs.Names.{◌∙◌, ap, ◌++◌, refl, nat_abs, to_z-of_z, sign_text, numeral, power_text}
use Rattle.std.specs.Int.{w128}
use Rattle.qd_ring.proofs.ValueTextLaws.{term_joined}
use Rattle.qd_ring.proofs.value_text.append_term.Goals as goal

pub returns-clause-added : goal.returns-clause-added
returns-clause-added c =
    c.in_ok-append_power.ensures.added
    ∙ ap (λ o. o ++ power_text c.args.power)
    (c.in_ok-append_numeral.ensures.added
    ∙ ap (λ o. o ++ numeral c.unsigned_abs.result)
    (c.in_ok-append_sign.ensures.added c.args.coefficient (rw (to_z-of_z w128 c.args.coefficient c.ranges.coefficient) refl)))
    ∙ term_joined c.args.out.now.items (sign_text c.args.later c.args.coefficient) (power_text c.args.power) c.unsigned_abs.result (nat_abs c.args.coefficient) (c.unsigned_abs.ensures.value ∙ ap nat_abs (to_z-of_z w128 c.args.coefficient c.ranges.coefficient))
