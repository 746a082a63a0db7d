use Rattle.classes.proofs.Conjugacy.{members_exactly, centraliser_exactly}
use Rattle.classes.proofs.conjugation_laws.Goals as goal

pub returns-clause-members : goal.returns-clause-members
returns-clause-members c = members_exactly

pub returns-clause-centraliser : goal.returns-clause-centraliser
returns-clause-centraliser c = centraliser_exactly
