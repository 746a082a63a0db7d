use Rattle.transport.proofs.Names.{simples_of, rows_below, length}
use Rattle.transport.proofs.Order.{ascending_permutes, sorted}
use Rattle.transport.proofs.order_laws.Goals as goal

pub returns-clause-rows : goal.returns-clause-rows
unfolding simples_of
returns-clause-rows c k tables = ascending_permutes (rows_below k (length tables) tables)

pub returns-clause-ascend : goal.returns-clause-ascend
unfolding simples_of
returns-clause-ascend c k tables = sorted (rows_below k (length tables) tables)
