use Rattle.qd_engine.proofs.Names.{◌≡◌, ◌++◌, ◌<◌, le_antisymm, refl, sym, ap, subst, ◌∙◌, arith, append-nil, first_lines, first_lines-more, Cochain, values_of_rows, s_rows}
use Rattle.qd_engine.proofs.MatrixLines.{line_of_row, all_lines, rows_count, line_is}
use Rattle.qd_engine.proofs.row_parts.append_rows_of_s.Goals as goal

pub loop-i-init : goal.loop-i-init
unfolding first_lines
loop-i-init g c = sym (append-nil c.args.out.now.items)

pub append_s-requires : goal.append_s-requires
append_s-requires g c =
    let rows = subst (λ rows. values_of_rows g.row.K rows ≡ s_rows g.row.K c.args.simples.now) (sym c.rows-rows.ensures.rows) c.requires.matrix in
    (omega arith, omega (arith, rows_count g.row.K c.args.simples.now c.rows-rows.result.now rows, c.loop-i-test.true, c.count-i-end.ensures.count))

pub loop-i-preserved : goal.loop-i-preserved
loop-i-preserved g c =
    let s = c.args.simples.now in
    let rows = subst (λ rows. values_of_rows g.row.K rows ≡ s_rows g.row.K s) (sym c.rows-rows.ensures.rows) c.requires.matrix in
    let order = c.order-n.ensures.order ∙ ap (λ t. t.order) c.group.ensures.group ∙ ap (λ (w : Cochain). w.group.order) c.cocycle.ensures.cocycle in
    first_lines-more (line_of_row g.row.K s) c.loop-i.i c.args.out.now.items c.loop-i.out.items c.append_s.new.out.items _ c.loop-i.invariant
    (line_is g.row.K s c.rows-rows.result.now rows c.order-n.result c.loop-i.i order (subst (λ n. c.loop-i.i < n) c.count-i-end.ensures.count c.loop-i-test.true))
    c.in_ok-append_s.ensures.added

pub returns : goal.returns
returns g c = record {
  added = c.loop-i.invariant
      ∙ ap (λ text. c.args.out.now.items ++ text)
      (all_lines g.row.K c.args.simples.now c.loop-i.i _ (le_antisymm c.loop-i.auto.i-end c.loop-i-test.false ∙ c.count-i-end.ensures.count) refl);
}
