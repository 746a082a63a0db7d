use Rattle.dixon_split.proofs.Names.{◌≡◌, ◌≢◌, All, map, take, flat_map, CommRing, IsFixed, ZeroTest, parts_below, Element, IsElement, residues, HasStructure}
use Rattle.dixon_split.proofs.pieces.refined.Given as goal

abbrev pub invariant-loop-piece : goal.invariant-loop-piece
invariant-loop-piece l = record {
  elements : All (λ piece. IsElement l.algebra.q l.algebra.rank piece.items) l.next.items;
  parts : (Z : CommRing (Element l.algebra.q l.algebra.rank)) (T : ZeroTest Z) (H : HasStructure l.algebra Z) → IsFixed Z l.algebra.q
      → All (λ piece. (residues l.algebra piece.items ≢ Z.nought) × (Z.mul (residues l.algebra piece.items) (residues l.algebra piece.items) ≡ residues l.algebra piece.items)) l.pieces
      → map (λ piece. residues l.algebra piece.items) l.next.items ≡ flat_map (λ e. parts_below Z T l.algebra.q (H.basis l.t) e l.algebra.q) (map (λ piece. residues l.algebra piece.items) (take l.piece-index l.pieces));
}
