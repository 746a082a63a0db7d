use Rattle.data_print.proofs.Names.{[], refl, ap, ◌∙◌, arith, ◌⧺◌, first_lines, simple_line, character_line}
use Rattle.data_print.proofs.Fronts.{first_lines-more}
use Rattle.data_print.proofs.simple_lines.simples_text.Goals as goal

pub loop-i-init : goal.loop-i-init
unfolding first_lines
loop-i-init g c = c.new-text.ensures.items

pub loop-i-preserved : goal.loop-i-preserved
loop-i-preserved g c =
    first_lines-more (λ i. simple_line g.row.K c.args.simples.now i ⧺ character_line g.row.K c.args.simples.now i) c.loop-i.i [] c.loop-i.text.items
    c.append_simple.new.text.items _ c.loop-i.invariant refl c.in_ok-append_simple.ensures.added

pub returns : goal.returns
returns g c = record {
  text = c.loop-i.invariant
      ∙ ap (first_lines (λ i. simple_line g.row.K c.args.simples.now i ⧺ character_line g.row.K c.args.simples.now i))
      (omega (arith, c.loop-i-test.false, c.loop-i.auto, c.count-i-end.ensures.count));
}
