use Rattle.prime_field.specs.Laws.Field.{residue_inverse}
use Rattle.prime_field.proofs.laws.field_laws.Goals as goal

pub returns-clause-inverse : goal.returns-clause-inverse
returns-clause-inverse c = residue_inverse
