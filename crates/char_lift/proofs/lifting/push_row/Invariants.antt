use Rattle.char_lift.proofs.Names.{◌≡◌, [], ◌∷◌, ◌++◌, None, first, array_of, tabulated, lifted_value, place_fault}
use Rattle.char_lift.proofs.lifting.push_row.Given as goal

-- the values before x are added, and no place before x fails
abbrev pub invariant-loop-x : goal.invariant-loop-x
invariant-loop-x g l = record {
  added : l.rows ≡ l.fn.rows ++ tabulated l.x (λ x. array_of (lifted_value l.twist l.powers.q l.powers.conductor l.powers.root l.ratios l.degree x)) ∷ [];
  holds : first l.x (place_fault l.twist l.powers.q l.powers.conductor l.powers.root l.row l.ratios l.degree) ≡ None;
}
