use Rattle.std.proofs.Common.{◌*◌, arith}
use Rattle.prime_field.proofs.ResidueRows.{slice_below}
use Rattle.prime_field.proofs.minimals.power_after.Goals as goal

pub next_power-requires-clause-power_below : goal.next_power-requires-clause-power_below
next_power-requires-clause-power_below c =
    slice_below c.args.q c.args.powers.now (c.args.k * (c.args.w * c.args.w)) (c.args.w * c.args.w) (omega (arith, c.requires.whole)) c.requires.powers_below
