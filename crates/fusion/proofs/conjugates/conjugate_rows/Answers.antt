use Rattle.fusion.proofs.Names.{ℕ, Vec, Weighted, AreWeighted}
use Rattle.fusion.proofs.Lists.{one_more}
use Rattle.fusion.proofs.conjugates.conjugate_rows.Goals as goal

pub loop-l-preserved : goal.loop-l-preserved
loop-l-preserved g c =
    let holds : ℕ → Vec (Weighted g.row.K) → Type 0 = λ m row. AreWeighted g.row.K c.args.simples.now m row.items in
    one_more holds c.loop-l.l c.loop-l.rows.items c.push.new.self.items c.in_ok-conjugate_row.field-0 c.in_ok-push.ensures.items c.loop-l.invariant c.in_ok-conjugate_row.ensures.row
