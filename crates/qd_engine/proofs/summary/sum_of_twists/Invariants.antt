use Rattle.qd_engine.proofs.Names.{◌≡◌, ◌*◌, ◌≤◌, map, sum, range_with_len, twist_at}
use Rattle.qd_engine.proofs.summary.sum_of_twists.Given as goal

-- the exponents of the simples before i
abbrev pub invariant-loop-i : goal.invariant-loop-i
invariant-loop-i g l = record {
  few : l.total ≤ l.i * 4294967295;
  kept : l.total ≡ sum (map (twist_at g.row.K l.simples) (range_with_len 0 l.i));
}
