use Rattle.row_order.proofs.SimpleRowLaws.{rows_of_simples_reorder}
use Rattle.row_order.proofs.TablesInOrder.{simples_in_order, root_rows_in_order}
use Rattle.row_order.proofs.SameSimples.{same_simples_in_order}
use Rattle.row_order.proofs.OrderKept.{order_is_kept}
use Rattle.row_order.proofs.simple_row_laws.Goals as goal

pub returns-clause-rows : goal.returns-clause-rows
returns-clause-rows c = rows_of_simples_reorder

pub returns-clause-simples : goal.returns-clause-simples
returns-clause-simples c = simples_in_order

pub returns-clause-roots : goal.returns-clause-roots
returns-clause-roots c = root_rows_in_order

pub returns-clause-same : goal.returns-clause-same
returns-clause-same c = same_simples_in_order

pub returns-clause-kept : goal.returns-clause-kept
returns-clause-kept c = order_is_kept
