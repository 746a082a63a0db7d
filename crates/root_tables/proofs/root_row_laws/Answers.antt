use Rattle.root_tables.proofs.TableRoots.{root_rows_fit}
use Rattle.root_tables.proofs.MissRoots.{root_rows_miss_clauses}
use Rattle.root_tables.proofs.SimpleRoots.{root_simples_fit}
use Rattle.root_tables.proofs.root_row_laws.Goals as goal

pub returns-clause-sides : goal.returns-clause-sides
returns-clause-sides c = root_rows_fit

pub returns-clause-misses : goal.returns-clause-misses
returns-clause-misses c = root_rows_miss_clauses

pub returns-clause-numerators : goal.returns-clause-numerators
returns-clause-numerators c = root_simples_fit
