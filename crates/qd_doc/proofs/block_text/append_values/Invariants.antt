use Rattle.qd_doc.proofs.Names.{block_at, row_at, take, ◌++◌, ◌≡◌}
use Rattle.qd_doc.proofs.Lines.{values_text}
use Rattle.qd_doc.proofs.block_text.append_values.Given as goal

-- the values so far were added
abbrev pub invariant-loop-p : goal.invariant-loop-p
invariant-loop-p l = l.out.items ≡ l.fn.out.items ++ values_text (take l.p (row_at (block_at l.blocks l.b).rows l.r))
