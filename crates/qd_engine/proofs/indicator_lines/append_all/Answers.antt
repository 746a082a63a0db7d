use Rattle.qd_engine.proofs.Names.{◌++◌, le_antisymm, refl, sym, ap, ◌∙◌, append-nil, first_lines, indicator_line, first_lines-more, indicator_of}
use Rattle.qd_engine.proofs.indicator_lines.append_all.Goals as goal

pub loop-l-init : goal.loop-l-init
unfolding first_lines
loop-l-init g c = sym (append-nil c.args.out.now.items)

pub loop-l-preserved : goal.loop-l-preserved
loop-l-preserved g c =
    first_lines-more (λ i. indicator_line i (indicator_of g.row.K c.args.simples.now c.args.m i)) c.loop-l.l c.args.out.now.items c.loop-l.out.items c.append_simple.new.out.items _
    c.loop-l.invariant refl c.in_ok-append_simple.ensures.added

pub returns : goal.returns
returns g c = record {
  added = c.loop-l.invariant
      ∙ ap (λ n. c.args.out.now.items ++ first_lines (λ i. indicator_line i (indicator_of g.row.K c.args.simples.now c.args.m i)) n)
      (le_antisymm c.loop-l.auto.l-end c.loop-l-test.false ∙ c.count-l-end.ensures.count);
}
