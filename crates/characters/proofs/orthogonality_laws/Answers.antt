use Rattle.characters.proofs.OrthogonalityLaws.{row_orthogonality}
use Rattle.characters.proofs.SecondOrthogonality.{second_orthogonality}
use Rattle.characters.proofs.Expansion.{expansion}
use Rattle.characters.proofs.orthogonality_laws.Goals as goal

pub returns : goal.returns
returns c = record {
  rows = λ n s T C X E good free. row_orthogonality T C X E good free;
  pairs = λ n s T C X E good. second_orthogonality T C X E good;
  span = λ n s T C X E good. expansion T C X E good;
}
