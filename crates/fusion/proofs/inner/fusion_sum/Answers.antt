use Rattle.transport.specs.Fusion.{fusion_sum}
use Rattle.fusion.proofs.PlainParts.{answers_formed, answers_found}
use Rattle.fusion.proofs.inner.fusion_sum.Goals as goal

pub returns-in-Some : goal.returns-in-Some
returns-in-Some g c = record { answers = answers_found g.row.K (fusion_sum g.row.K c.args.simples.now c.args.i c.args.j c.args.l) c.in-Some.sum c.in-Some.ensures.value }

pub returns-in-None : goal.returns-in-None
returns-in-None g c =
    record { answers = answers_formed g.row.K (fusion_sum g.row.K c.args.simples.now c.args.i c.args.j c.args.l) c.fusion_sum.result c.fusion_sum.ensures.forms }
