use Rattle.std.proofs.Common.{◌++◌, List, ℕ, ap, ◌∙◌}
use Rattle.data_print.proofs.FusionTexts.{results_text, product_of_results}
use Rattle.data_print.proofs.fusion_lines.append_product.Goals as goal

pub loop-k-init : goal.loop-k-init
loop-k-init c =
    let results = c.into_iter-k-iterator.ensures.into_iter_gives ∙ c.row-k-items.ensures.items in
    let lines = ap (results_text c.args.i c.args.j) results ∙ product_of_results c.args.web.now c.args.i c.args.j in
    (tt, tt, ap (λ (text : List ℕ). c.args.text.now.items ++ text) lines)
