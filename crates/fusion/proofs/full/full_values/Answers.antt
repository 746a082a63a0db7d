use Rattle.fusion.proofs.Names.{◌/◌, ◌%◌, ℕ, List, Option, subst, Vec, Box, Monomial, IsClassRow}
use Rattle.fusion.proofs.Lists.{one_more}
use Rattle.fusion.proofs.full.full_values.Goals as goal

pub loop-q-preserved : goal.loop-q-preserved
loop-q-preserved g c =
    let s = c.args.simples.now in
    let n = s.cocycle.group.order in
    let q = c.loop-q.q in
    let row = c.in_ok-class_row.field-0 in
    let holds : ℕ → Vec (Option (Box (List Monomial))) → Type 0 = λ q row. IsClassRow g.row.K s (q / n) (q % n) row.items in
    one_more holds q c.loop-q.rows.items c.push.new.self.items row c.in_ok-push.ensures.items c.loop-q.invariant
    (subst (λ m. IsClassRow g.row.K s (q / m) (q % m) row.items) c.order-order.ensures.order c.in_ok-class_row.ensures.row)
