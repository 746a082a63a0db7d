use Rattle.qd_engine.proofs.Names.{◌≡◌, ◌++◌, take, source_of, row_part_text, parts_text}
use Rattle.qd_engine.proofs.row_parts.append_row_parts.Given as goal

-- the parts before this one
abbrev pub invariant-loop-part : goal.invariant-loop-part
invariant-loop-part g l = l.out.items ≡ l.fn.out.items ++ parts_text (row_part_text (source_of l.rows) g.row.K l.simples) (take l.part-index l.parts)
