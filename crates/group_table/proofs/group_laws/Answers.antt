use Rattle.group_table.proofs.Lawful.{group_exactly}
use Rattle.group_table.proofs.Sentences.{group_below}
use Rattle.group_table.proofs.group_laws.Goals as goal

pub returns : goal.returns
returns c = record { sentences = group_below; exactly = group_exactly }
