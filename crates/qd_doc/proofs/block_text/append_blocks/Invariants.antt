use Rattle.std.proofs.Common.{◌≡◌, ◌++◌, take}
use Rattle.qd_doc.proofs.Lines.{blocks_text}
use Rattle.qd_doc.proofs.block_text.append_blocks.Given as goal

-- the blocks so far were added
abbrev pub invariant-loop-b : goal.invariant-loop-b
invariant-loop-b l = l.out.items ≡ l.fn.out.items ++ blocks_text (take l.b l.blocks)
