use Rattle.dixon_split.proofs.Names.{◌≡◌, ◌++◌, All, map, CommRing, ZeroTest, parts_below, Element, IsElement, residues, HasStructure}
use Rattle.dixon_split.proofs.parts.push_all_parts.Given as goal

abbrev pub invariant-loop-v : goal.invariant-loop-v
invariant-loop-v l = record {
  elements : All (λ piece. IsElement l.algebra.q l.algebra.rank piece.items) l.pieces.items;
  parts : (Z : CommRing (Element l.algebra.q l.algebra.rank)) (T : ZeroTest Z) (H : HasStructure l.algebra Z)
      → map (λ piece. residues l.algebra piece.items) l.pieces.items ≡ map (λ piece. residues l.algebra piece.items) l.initial.pieces.items ++ parts_below Z T l.algebra.q (H.basis l.t) (residues l.algebra l.e) l.v;
}
