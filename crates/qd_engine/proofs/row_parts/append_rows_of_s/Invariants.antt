use Rattle.qd_engine.proofs.Names.{◌≡◌, ◌++◌, first_lines}
use Rattle.qd_engine.proofs.MatrixLines.{line_of_row}
use Rattle.qd_engine.proofs.row_parts.append_rows_of_s.Given as goal

-- the lines of the rows before i
abbrev pub invariant-loop-i : goal.invariant-loop-i
invariant-loop-i g l = l.out.items ≡ l.fn.out.items ++ first_lines (line_of_row g.row.K l.simples) l.i
