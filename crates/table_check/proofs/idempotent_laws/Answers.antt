use Rattle.table_check.proofs.Idempotents.{good_tables_give_idempotents}
use Rattle.table_check.proofs.idempotent_laws.Goals as goal

pub returns : goal.returns
returns c = record { idempotents = good_tables_give_idempotents }
