use Rattle.row_order.proofs.ReorderedRows.{good_in_any_order, root_rows_in_any_order}
use Rattle.row_order.proofs.reordering_laws.Goals as goal

pub returns-clause-good : goal.returns-clause-good
returns-clause-good c = good_in_any_order

pub returns-clause-roots : goal.returns-clause-roots
returns-clause-roots c = root_rows_in_any_order
