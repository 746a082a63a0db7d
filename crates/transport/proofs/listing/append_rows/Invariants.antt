use Rattle.transport.proofs.Names.{◌≡◌, ◌++◌, map, range_with_len, simple_of, simple_in}
use Rattle.transport.proofs.listing.append_rows.Given as goal

-- the rows before r, after those that were there
abbrev pub invariant-loop-r : goal.invariant-loop-r
invariant-loop-r g l = map (simple_in g.row.K) l.entries.items ≡ map (simple_in g.row.K) l.initial.entries.items ++ map (simple_of g.row.K l.c l.table) (range_with_len 0 l.r)
