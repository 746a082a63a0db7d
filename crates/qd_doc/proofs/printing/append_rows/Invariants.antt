use Rattle.qd_doc.proofs.Names.{flat_map, length, line, rows, ◌*◌, ◌++◌, ◌-◌, ◌≡◌}
use Rattle.qd_doc.proofs.printing.append_rows.Given as goal

-- the rows so far, and those of the numbers that are left, are all
abbrev pub invariant-loop : goal.invariant-loop
invariant-loop l = record {
  left : length l.rest ≡ (l.count - l.counter) * l.width;
  text : l.out.items ++ flat_map line (rows (l.count - l.counter) l.width l.rest) ≡ l.fn.out.items ++ flat_map line (rows l.count l.width l.numbers);
}
