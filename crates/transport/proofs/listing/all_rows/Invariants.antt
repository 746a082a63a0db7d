use Rattle.transport.proofs.Names.{◌≡◌, ◌≤◌, ◌*◌, length, map, rows_below, simple_in, AreGood}
use Rattle.transport.proofs.listing.all_rows.Given as goal

-- the rows of the classes before c, whose tables are good
abbrev pub invariant-loop-c : goal.invariant-loop-c
invariant-loop-c g l = record {
  rows : map (simple_in g.row.K) l.entries.items ≡ rows_below g.row.K l.c l.tables;
  good : AreGood g.row.K l.c l.tables;
  few : length l.entries.items ≤ 60 * l.c;
}
