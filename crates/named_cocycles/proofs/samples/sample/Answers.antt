use Rattle.named_cocycles.proofs.Gauges.{sample_is, never_refused}
use Rattle.named_cocycles.proofs.samples.sample.Goals as goal

pub returns-in-Ok : goal.returns-in-Ok
returns-in-Ok c = record {
  made = sample_is c.args.s c.in_ok-base.base c.in-Ok.w c.in_ok-numbers.numbers c.in_ok-base.ensures.made c.in_ok-numbers.ensures.numbers c.in-Ok.ensures.made.1;
}

pub unreachable-requires : goal.unreachable-requires
unreachable-requires c =
    never_refused c.args.s _ _ c.in_ok-base.base c.in_ok-numbers.numbers c.in-Err-NotNormal.field-0 c.in_ok-numbers.ensures.numbers c.in-Err-NotNormal.field-0-is c.in-Err-NotNormal.ensures.refused
