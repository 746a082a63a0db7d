use Rattle.std.proofs.Common.{◌≡◌, ◌%◌, ◌^◌}
use Rattle.group_make.proofs.formulas.power_modulo.Given as goal

-- the power reached
abbrev pub invariant-loop-step : goal.invariant-loop-step
invariant-loop-step l = record {
  power : l.power ≡ l.r ^ l._step % l.n;
  factor : l.factor ≡ l.r % l.n;
}
