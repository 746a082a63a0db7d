use Rattle.qd_doc.proofs.Names.{block_at, take, ◌++◌, ◌≡◌}
use Rattle.qd_doc.proofs.Lines.{rows_text}
use Rattle.qd_doc.proofs.block_text.append_rows.Given as goal

-- the rows so far were added
abbrev pub invariant-loop-r : goal.invariant-loop-r
invariant-loop-r l = l.out.items ≡ l.fn.out.items ++ rows_text (take l.r (block_at l.blocks l.b).rows)
