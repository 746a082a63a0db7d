use Rattle.splitting_theory.proofs.Parts.{part_acts, part_idempotent, parts_total}
use Rattle.splitting_theory.proofs.Pieces.{pieces_split}
use Rattle.splitting_theory.proofs.splitting_laws.Goals as goal

pub returns : goal.returns
returns c = record {
  act = part_acts;
  idempotent = part_idempotent;
  total = parts_total;
  pieces = pieces_split;
}
