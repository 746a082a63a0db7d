use Rattle.table_check.proofs.Names.{rules}
use Rattle.table_check.proofs.Walks.{finds_first}
use Rattle.table_check.proofs.row_clauses.twist_refusal.Goals as goal

pub returns : goal.returns
returns g c = record { finds = search (rules, finds_first) }
