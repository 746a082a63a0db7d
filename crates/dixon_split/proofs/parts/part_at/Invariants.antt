use Rattle.dixon_split.proofs.Names.{◌≡◌, ◌<◌, horner_value}
use Rattle.dixon_split.proofs.parts.part_at.Given as goal

abbrev pub invariant-loop-j : goal.invariant-loop-j
invariant-loop-j l = record {
  below : l.sum < l.algebra.q;
  so_far : l.sum ≡ (horner_value l.algebra l.powers l.v l.k l.j).value;
}
