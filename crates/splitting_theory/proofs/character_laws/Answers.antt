use Rattle.splitting_theory.proofs.Characters.{values_character, character_listed}
use Rattle.splitting_theory.proofs.Counting.{splitting_counts}
use Rattle.splitting_theory.proofs.Dependence.{dependent}
use Rattle.splitting_theory.proofs.character_laws.Goals as goal

pub returns : goal.returns
returns c = record {
  values = values_character;
  listed = character_listed;
  count = splitting_counts;
  dependent = dependent;
}
