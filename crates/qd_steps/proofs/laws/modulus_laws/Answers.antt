use Rattle.qd_steps.proofs.FieldOf.{field_found}
use Rattle.qd_steps.proofs.LiftedRows.{lifted_matched}
use Rattle.qd_steps.proofs.ModulusCauses.{lifted_root_rows, modulus_said}
use Rattle.qd_steps.proofs.laws.modulus_laws.Goals as goal

pub returns-clause-field : goal.returns-clause-field
returns-clause-field c = field_found c.args.ring.now

pub returns-clause-matched : goal.returns-clause-matched
returns-clause-matched c = lifted_matched c.args.ring.now

pub returns-clause-roots : goal.returns-clause-roots
returns-clause-roots c = lifted_root_rows c.args.ring.now

pub returns-clause-causes : goal.returns-clause-causes
returns-clause-causes c = modulus_said c.args.ring.now
