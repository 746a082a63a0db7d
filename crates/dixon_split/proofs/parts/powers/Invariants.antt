use Rattle.dixon_split.proofs.Names.{◌≡◌, CommRing, power, Element, IsElement, residues, HasStructure, ArePowers}
use Rattle.dixon_split.proofs.parts.powers.Given as goal

abbrev pub invariant-loop-j : goal.invariant-loop-j
invariant-loop-j l = record {
  powers : ArePowers l.algebra l.t l.e l._j l.powers.items;
  element : IsElement l.algebra.q l.algebra.rank l.power.items;
  power : (Z : CommRing (Element l.algebra.q l.algebra.rank)) (H : HasStructure l.algebra Z) → residues l.algebra l.power.items ≡ Z.mul (power Z (H.basis l.t) l._j) (residues l.algebra l.e);
}
