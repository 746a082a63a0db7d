use Rattle.character_lists.proofs.Characters.{characters_are, lists_characters}
use Rattle.character_lists.proofs.character_list_laws.Goals as goal

pub returns-clause-one : goal.returns-clause-one
returns-clause-one c = characters_are c.args.ring.now

pub returns-clause-listed : goal.returns-clause-listed
returns-clause-listed c = lists_characters c.args.ring.now
