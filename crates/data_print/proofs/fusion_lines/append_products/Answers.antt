use Rattle.data_print.proofs.Names.{refl, ap, sym, ◌∙◌, ◌++◌, arith, count_of, first_lines, product_text}
use Rattle.std.proofs.lemmas.List.{append-nil}
use Rattle.data_print.proofs.Fronts.{first_lines-more}
use Rattle.data_print.proofs.fusion_lines.append_products.Goals as goal

pub loop-j-init : goal.loop-j-init
unfolding first_lines
loop-j-init c = sym (append-nil c.args.text.now.items)

pub loop-j-preserved : goal.loop-j-preserved
loop-j-preserved c =
    first_lines-more (λ j. product_text c.args.web.now.simples (count_of c.args.web.now) c.args.i j) c.loop-j.j c.args.text.now.items c.loop-j.text.items
    c.append_product.new.text.items _ c.loop-j.invariant refl c.in_ok-append_product.ensures.added

pub returns : goal.returns
returns c = record {
  added = c.loop-j.invariant
      ∙ ap (λ n. c.args.text.now.items ++ first_lines (λ j. product_text c.args.web.now.simples (count_of c.args.web.now) c.args.i j) n)
      (omega (arith, c.loop-j-test.false, c.loop-j.auto, c.simples-j-end.ensures.simples));
}
