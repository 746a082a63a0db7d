use Rattle.characters.proofs.PartLaws.{total_places}
use Rattle.characters.proofs.AlgebraLaws.{central_at_places}
use Rattle.characters.proofs.PlaceTableLaws.{good_at_elements}
use Rattle.characters.proofs.place_laws.Goals as goal

pub returns : goal.returns
returns c = record {
  totals = λ n m inside element part. total_places inside element part;
  central = λ n m T a Q element subgroup. central_at_places T a Q element subgroup;
  good = λ n s m r T C X E a Q F element subgroup N simple part. good_at_elements T C X E a Q F element subgroup N simple part;
}
