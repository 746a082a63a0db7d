use Rattle.table_check.proofs.sides.sum_left.Goals as goal

pub loop-i-init : goal.loop-i-init
loop-i-init g c = c.zero-total.ensures.none_added _
