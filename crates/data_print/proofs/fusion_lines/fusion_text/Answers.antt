use Rattle.data_print.proofs.Names.{[], refl, ap, ◌∙◌, arith, count_of, first_lines, products_text}
use Rattle.data_print.proofs.Fronts.{first_lines-more}
use Rattle.data_print.proofs.fusion_lines.fusion_text.Goals as goal

pub loop-i-init : goal.loop-i-init
unfolding first_lines
loop-i-init c = c.new-text.ensures.items

pub loop-i-preserved : goal.loop-i-preserved
loop-i-preserved c =
    first_lines-more (λ i. products_text c.args.web.now.simples (count_of c.args.web.now) i) c.loop-i.i [] c.loop-i.text.items
    c.append_products.new.text.items _ c.loop-i.invariant refl c.in_ok-append_products.ensures.added

pub returns : goal.returns
returns c = record {
  text = c.loop-i.invariant
      ∙ ap (first_lines (λ i. products_text c.args.web.now.simples (count_of c.args.web.now) i))
      (omega (arith, c.loop-i-test.false, c.loop-i.auto, c.simples-i-end.ensures.simples));
}
