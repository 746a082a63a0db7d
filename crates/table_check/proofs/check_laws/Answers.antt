use Rattle.table_check.proofs.Fitting.{good_tables_miss_nothing}
use Rattle.table_check.proofs.check_laws.Goals as goal

pub returns : goal.returns
returns c = record { complete = good_tables_miss_nothing }
