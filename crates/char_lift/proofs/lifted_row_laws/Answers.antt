use Rattle.char_lift.proofs.RootRows.{lifted_are_roots, lifted_values}
use Rattle.char_lift.proofs.lifted_row_laws.Goals as goal

pub returns : goal.returns
returns c = record { roots = lifted_are_roots; values = lifted_values }
