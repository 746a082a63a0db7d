use Rattle.qd_text.proofs.Names.{◌∙◌, sym, ap, drop, length, false, ◌+◌, arith, blanked, runs}
use Rattle.qd_text.proofs.Lexemes.{skip_at, nothing_left}
use Rattle.qd_text.proofs.token.token_start.Goals as goal

pub loop-at-preserved : goal.loop-at-preserved
loop-at-preserved c =
    ap (λ inside. runs false (c.loop-at.at + 1) (blanked inside (drop (c.loop-at.at + 1) c.args.bytes.now))) c.in_comment-inside.ensures.comment
    ∙ sym (skip_at c.loop-at.inside c.loop-at.at c.args.bytes.now c.loop-at-test.true (sym c.is_skipped.ensures.skipped ∙ c.if-not-is_skipped.false))
    ∙ c.loop-at.invariant

pub returns-clause-same : goal.returns-clause-same
returns-clause-same c =
    nothing_left false (length c.args.bytes.now) c.args.bytes.now (omega arith)
    ∙ sym (nothing_left c.loop-at.inside c.loop-at.at c.args.bytes.now (omega arith))
    ∙ c.loop-at.invariant
