use Rattle.std.proofs.Common.{◌≡◌, ◌++◌, take}
use Rattle.qd_doc.proofs.Lines.{spaced}
use Rattle.qd_doc.proofs.printing.append_more.Given as goal

-- the numbers so far were added
abbrev pub invariant-loop-number : goal.invariant-loop-number
invariant-loop-number l = l.out.items ≡ l.fn.out.items ++ spaced (take l.number-index l.numbers)
