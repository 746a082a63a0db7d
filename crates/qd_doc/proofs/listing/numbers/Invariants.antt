use Rattle.qd_doc.proofs.Names.{IsOffset, length, read_numbers, tokens_from, ◌-◌, ◌≡◌}
use Rattle.qd_doc.proofs.Loops.{with_front}
use Rattle.qd_doc.proofs.listing.numbers.Given as goal

-- the numbers so far and those that are left are all
abbrev pub invariant-loop : goal.invariant-loop
invariant-loop l = record {
  offset : IsOffset l.bytes.items l.next;
  few : length l.numbers ≡ l.counter;
  left : with_front l.numbers (read_numbers (length l.bytes.items) (l.count - l.counter) (tokens_from l.next l.bytes.items))
      ≡ read_numbers (length l.bytes.items) l.count (tokens_from l.at l.bytes.items);
}
