use Rattle.cochain.proofs.Names.{◌≡◌, ℕ, ◌<◌, ◌/◌, ◌%◌, false, length, get_or, is_zero_row}
use Rattle.cochain.proofs.zero_rows.mark_zero_rows.Given as goal

-- the marks of the rows before the place i
abbrev pub invariant-loop-i : goal.invariant-loop-i
invariant-loop-i l = record {
  count : length l.marks.items ≡ l.i;
  each : (j : ℕ) → j < l.i → get_or l.marks.items j false ≡ is_zero_row l.w (j / l.n) (j % l.n);
}
