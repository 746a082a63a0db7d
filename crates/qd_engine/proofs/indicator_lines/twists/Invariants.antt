use Rattle.qd_engine.proofs.Names.{◌≡◌, ◌<◌, All, length, map, range_with_len, twist_at}
use Rattle.qd_engine.proofs.indicator_lines.twists.Given as goal

-- the exponents of the twists of the simples before i
abbrev pub invariant-loop-i : goal.invariant-loop-i
invariant-loop-i g l = record {
  count : length l.exponents ≡ l.i;
  kept : l.exponents ≡ map (twist_at g.row.K l.simples) (range_with_len 0 l.i);
  below : All (λ t. t < g.row.K) l.exponents;
}
