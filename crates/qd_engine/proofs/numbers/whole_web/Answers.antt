use Rattle.qd_engine.proofs.Names.{subst, fusion_never_overflows}
use Rattle.fusion.specs.Refusal.{Refuses}
use Rattle.qd_steps.proofs.TableCauses.{plain_same}
use Rattle.qd_engine.proofs.NumberLines.{first_not_whole}
use Rattle.qd_engine.proofs.numbers.whole_web.Goals as goal

pub unreachable-requires : goal.unreachable-requires
unreachable-requires g c =
    fusion_never_overflows g.row.K c.args.simples.now c.count-count.ensures.simples c.requires.rooted c.in-Err-Overflow.field-0-0
    (subst (λ refusal. Refuses g.row.K c.args.simples.now refusal) c.in-Err-Overflow.field-0-is c.in-Err-Overflow.ensures.refused)

pub returns-in-Err-NotWhole : goal.returns-in-Err-NotWhole
returns-in-Err-NotWhole g c =
    let value = c.in-Err-NotWhole.value in
    let is = subst (λ refusal. Refuses g.row.K c.args.simples.now refusal) c.in-Err-NotWhole.field-0-is c.in-Err-NotWhole.ensures.refused in
    record { tested = first_not_whole g.row.K c.args.simples.now _ _ _ value _ is (plain_same g.row.K value.conductor _ _ _ value.array is.value_is c.to_plain.ensures) }
