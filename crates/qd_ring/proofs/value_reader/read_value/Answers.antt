use Rattle.qd_ring.proofs.Names.{sym, ◌∙◌, ap, subst, replicate, length, get_or, pos, Spells}
use Rattle.qd_ring.proofs.ValueLaws.{one_byte, nought_spelled, nought_small, small_all, unread, found_small, found_wide}
use Rattle.qd_ring.proofs.value_reader.read_value.Goals.{else-text-eq1-via-then-text-eq1+else-text-eq48, else-text-eq1-via-else-text-eq1}
use Rattle.qd_ring.proofs.value_reader.read_value.Goals as goal

pub returns-then-text-eq48 : goal.returns-then-text-eq48
returns-then-text-eq48 c =
    (subst (λ text. Spells text c.args.phi (replicate 42 (pos 0))) (sym (one_byte c.args.text.now c.if-text-eq1.true c.if-text-eq48.true)) (nought_spelled c.args.phi), nought_small)

pub returns-in_default : goal.returns-in_default
returns-in_default c =
    unread c.args.text.now c.args.phi c.requires
    (λ nought. elim c.else-text-eq1.branch [
      | else-text-eq1-via-then-text-eq1+else-text-eq48 w ↦ w.if-text-eq48.false (ap (λ t. get_or t 0 0) nought)
      | else-text-eq1-via-else-text-eq1 w ↦ w.if-text-eq1.false (ap length nought)
    ])
    c.in_default.ensures.none

pub returns-then-are_small : goal.returns-then-are_small
returns-then-are_small c =
    (found_small c.args.text.now c.args.phi c.requires c.in-Some.coefficients c.in-Some.ensures.count c.in-Some.ensures.zeros c.in-Some.ensures.some (small_all c.in-Some.coefficients ∙ sym c.if-are_small.ensures), small_all c.in-Some.coefficients ∙ sym c.if-are_small.ensures)

pub returns-else-are_small : goal.returns-else-are_small
returns-else-are_small c =
    found_wide c.args.text.now c.args.phi c.requires c.in-Some.coefficients c.in-Some.ensures.count c.in-Some.ensures.zeros c.in-Some.ensures.some (small_all c.in-Some.coefficients ∙ sym c.if-are_small.ensures)
