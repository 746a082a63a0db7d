use Rattle.transport.proofs.CharacterLaws.{transporters_agree, characters_covariant, terms_invariant}
use Rattle.transport.proofs.full_character_laws.Goals as goal

pub returns-clause-transporter : goal.returns-clause-transporter
returns-clause-transporter c = transporters_agree

pub returns-clause-covariant : goal.returns-clause-covariant
returns-clause-covariant c = characters_covariant

pub returns-clause-terms : goal.returns-clause-terms
returns-clause-terms c = terms_invariant
