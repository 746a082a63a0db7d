use Rattle.pair_orbits.proofs.FormedSums.{formed_over_orbits}
use Rattle.pair_orbits.proofs.Sums.{sums_over_orbits, sizes_over_orbits}
use Rattle.pair_orbits.proofs.laws.sum_laws.Goals as goal

pub returns : goal.returns
returns c = record {
  sums = sums_over_orbits;
  sizes = sizes_over_orbits;
  formed = formed_over_orbits;
}
