use Rattle.qd_doc.proofs.Names.{All, IsTermOf, drop, length, pos, replicate, take, value_of_terms, ◌++◌, ◌-◌, ◌≡◌}
use Rattle.qd_doc.proofs.term.push_terms.Given as goal

-- the terms of the powers so far were added
abbrev pub invariant-loop-power : goal.invariant-loop-power
invariant-loop-power l = record {
  kept : take (length l.fn.terms.items) l.terms.items ≡ l.fn.terms.items;
  great_kept : take (length l.fn.great.items) l.great.items ≡ l.fn.great.items;
  each : All (IsTermOf (length l.great.items)) l.terms.items;
  value : value_of_terms l.great.items (drop (length l.fn.terms.items) l.terms.items) ≡ take l.power l.coefficients ++ replicate (42 - l.power) (pos 0);
}
