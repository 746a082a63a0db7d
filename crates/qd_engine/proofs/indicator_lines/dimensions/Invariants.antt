use Rattle.qd_engine.proofs.Names.{◌≡◌, length, map, range_with_len, dimension_at}
use Rattle.qd_engine.proofs.indicator_lines.dimensions.Given as goal

-- the dimensions of the simples before i
abbrev pub invariant-loop-i : goal.invariant-loop-i
invariant-loop-i g l = (length l.dims ≡ l.i) × (l.dims ≡ map (dimension_at g.row.K l.simples) (range_with_len 0 l.i))
