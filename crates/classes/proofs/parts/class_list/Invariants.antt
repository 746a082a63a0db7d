use Rattle.classes.proofs.Names.{◌≡◌, ◌∷◌, map, take, identity_of, class_at}
use Rattle.classes.proofs.parts.class_list.Given as goal

abbrev pub invariant-loop-a : goal.invariant-loop-a
invariant-loop-a l = l.classes.items ≡ map (class_at l.group) (identity_of l.group ∷ take l.a-index l.a-items)
