use Rattle.transport.specs.Fusion.{tensor_character}
use Rattle.fusion.proofs.PlainParts.{answers_formed, answers_found}
use Rattle.fusion.proofs.making.tensor_character.Goals as goal

pub returns-in-Some : goal.returns-in-Some
returns-in-Some g c =
    record { answers = answers_found g.row.K (tensor_character g.row.K c.args.simples.now c.args.i c.args.j c.args.g c.args.x) c.in-Some.sum c.in-Some.ensures.value }

pub returns-in-None : goal.returns-in-None
returns-in-None g c = record {
  answers = answers_formed g.row.K (tensor_character g.row.K c.args.simples.now c.args.i c.args.j c.args.g c.args.x) c.tensor_character.result c.tensor_character.ensures.forms;
}
