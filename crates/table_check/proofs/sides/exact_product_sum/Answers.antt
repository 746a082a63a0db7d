use Rattle.table_check.proofs.sides.exact_product_sum.Goals as goal

pub loop-y-init : goal.loop-y-init
loop-y-init g c = c.zero-total.ensures.none_added _
