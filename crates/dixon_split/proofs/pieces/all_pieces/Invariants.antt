use Rattle.dixon_split.proofs.Names.{◌≡◌, All, map, CommRing, IsFixed, ZeroTest, pieces, Element, IsElement, residues, HasStructure}
use Rattle.dixon_split.proofs.pieces.all_pieces.Given as goal

abbrev pub invariant-loop-t : goal.invariant-loop-t
invariant-loop-t l = record {
  elements : All (λ piece. IsElement l.algebra.q l.algebra.rank piece.items) l.found.items;
  pieces : (Z : CommRing (Element l.algebra.q l.algebra.rank)) (T : ZeroTest Z) (H : HasStructure l.algebra Z) → IsFixed Z l.algebra.q → map (λ piece. residues l.algebra piece.items) l.found.items ≡ pieces Z T l.algebra.q H.basis l.t;
}
