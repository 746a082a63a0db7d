use Rattle.qd_doc.proofs.Names.{IsOffset, length, read_entries, tokens_from, vec_len, ◌*◌, ◌-◌, ◌≡◌}
use Rattle.qd_doc.proofs.listing.entries.Given as goal

-- the entries that are left, put into the exponents so far, give what all give
abbrev pub invariant-loop : goal.invariant-loop
invariant-loop l = record {
  offset : IsOffset l.bytes.items l.next;
  all : vec_len l.exponents ≡ l.order * l.order * l.order;
  left : read_entries (length l.bytes.items) l.order (l.count - l.counter) l.exponents.items (tokens_from l.next l.bytes.items)
      ≡ read_entries (length l.bytes.items) l.order l.count l.fn.exponents.items (tokens_from l.at l.bytes.items);
}
