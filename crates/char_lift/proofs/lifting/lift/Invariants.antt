use Rattle.char_lift.proofs.Names.{◌≡◌, None, first, central_value, character_ratios, row_fault, lifted_rows}
use Rattle.char_lift.proofs.lifting.lift.Given as goal

-- the rows before this one are lifted, and none of them fails
abbrev pub invariant-loop-row : goal.invariant-loop-row
invariant-loop-row g l = record {
  lifted : l.rows ≡ lifted_rows l.twist l.ring.q l.ring.conductor l.ring.root l.row (central_value l.central);
  holds : first l.row (λ row. row_fault l.twist l.ring.q l.ring.conductor l.ring.root row (character_ratios l.twist l.ring.q l.ring.conductor l.ring.root (central_value l.central row))) ≡ None;
}
