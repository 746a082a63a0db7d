use Rattle.qd_ring.proofs.Names.{◌∙◌, ap, ◌++◌, arith}
use Rattle.qd_ring.proofs.Fronts.{decimal_is_numeral}
use Rattle.qd_ring.proofs.value_text.append_numeral.Goals as goal

pub returns-clause-added : goal.returns-clause-added
returns-clause-added c =
    c.in_ok-extend_from_slice.ensures.items
    ∙ ap (λ t. c.args.out.now.items ++ t) (c.as_bytes.ensures.value ∙ c.format.ensures.text ∙ decimal_is_numeral c.args.n (omega arith) c.requires)
