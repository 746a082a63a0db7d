-- The array of zeros.
use Rattle.qd_ring.proofs.Names.{arith, pos}
use Rattle.qd_ring.proofs.CycSums.{constant_array, constant_small, zero_value}
use Rattle.qd_ring.proofs.cyc.Cyc.zero.Goals as goal

pub invariant_of-result : goal.invariant_of-result
invariant_of-result g c = record {
  conductor = c.requires;
  array = constant_array g.row.K c.requires (pos 0);
  small = constant_small g.row.K c.requires (pos 0) (omega arith);
}

pub returns : goal.returns
returns g c = zero_value g.row.K c.requires
