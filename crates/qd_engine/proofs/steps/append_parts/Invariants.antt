use Rattle.qd_engine.proofs.Names.{◌≡◌, ◌++◌, take, part_text, parts_text, IsKnownOf}
use Rattle.qd_engine.proofs.steps.append_parts.Given as goal

-- the parts before this one, and the list of the classes where one of them made it
abbrev pub invariant-loop-part : goal.invariant-loop-part
invariant-loop-part l = record {
  text : l.out.items ≡ l.fn.out.items ++ parts_text (part_text l.w) (take l.part-index l.parts);
  known : IsKnownOf l.w l.known;
}
