use Rattle.qd_ring.proofs.Names.{◌≡◌, ◌++◌, drop, length, ltb, take, false, terms_text}
use Rattle.qd_ring.proofs.value_text.append_terms.Given as goal

-- what is written, with what the rest of the coefficients adds, is the whole
abbrev pub invariant-loop-power : goal.invariant-loop-power
invariant-loop-power l = record {
  start : l.start ≡ length l.fn.out.items;
  written : l.out.items ++ terms_text (ltb (length l.fn.out.items) (length l.out.items)) l.power (drop l.power l.coefficients)
      ≡ l.fn.out.items ++ terms_text false 0 l.coefficients;
  front : take (length l.fn.out.items) l.out.items ≡ l.fn.out.items;
}
