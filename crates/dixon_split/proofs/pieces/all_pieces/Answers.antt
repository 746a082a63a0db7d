use Rattle.dixon_split.proofs.Names.{◌≡◌, ◌≢◌, ◌∙◌, ◌∷◌, [], map, ap, sym, subst, arith, All, flat_map, add-one, pieces, parts_below, pieces_zero, pieces_suc, IsElement, residues}
use Rattle.dixon_split.proofs.Refining.{pieces_good, first_one, first_is_element, all_single, single}
use Rattle.dixon_split.proofs.pieces.all_pieces.Goals as goal

pub loop-t-init : goal.loop-t-init
loop-t-init c = record {
  elements =
      all_single (λ piece. IsElement c.args.algebra.now.q c.args.algebra.now.rank piece.items) c.push.new.self.items c.new-found.result.items c.in_ok-first.first c.in_ok-push.ensures.items c.new-found.ensures.items
      (first_is_element c.args.algebra.now c.in_ok-first.first.items c.in_ok-first.ensures.values);
  pieces = λ Z T H I.
      ap (map (λ piece. residues c.args.algebra.now piece.items)) (single c.push.new.self.items c.new-found.result.items c.in_ok-first.first c.in_ok-push.ensures.items c.new-found.ensures.items)
      ∙ ap (λ x. x ∷ []) (first_one c.args.algebra.now Z T H I c.in_ok-first.first.items c.in_ok-first.ensures.values) ∙ sym (pieces_zero Z T c.args.algebra.now.q H.basis);
}

pub loop-t-preserved : goal.loop-t-preserved
loop-t-preserved c = record {
  elements = c.in_ok-found.ensures.elements;
  pieces = λ Z T H I.
      c.in_ok-found.ensures.parts Z T H I
      (subst (All (λ piece. (residues c.args.algebra.now piece.items ≢ Z.nought) × (Z.mul (residues c.args.algebra.now piece.items) (residues c.args.algebra.now piece.items) ≡ residues c.args.algebra.now piece.items))) (sym c.as_slice.ensures.value)
      (pieces_good c.args.algebra.now Z T H I (λ piece. residues c.args.algebra.now piece.items) c.loop-t.t c.loop-t.found.items (c.loop-t.invariant.pieces Z T H I)))
      ∙ ap (λ xs. flat_map (λ e. parts_below Z T c.args.algebra.now.q (H.basis c.loop-t.t) e c.args.algebra.now.q) (map (λ piece. residues c.args.algebra.now piece.items) xs)) c.as_slice.ensures.value
      ∙ ap (flat_map (λ e. parts_below Z T c.args.algebra.now.q (H.basis c.loop-t.t) e c.args.algebra.now.q)) (c.loop-t.invariant.pieces Z T H I)
      ∙ sym (pieces_suc Z T c.args.algebra.now.q H.basis c.loop-t.t) ∙ ap (pieces Z T c.args.algebra.now.q H.basis) (sym (add-one c.loop-t.t));
}

pub returns-clause-pieces : goal.returns-clause-pieces
returns-clause-pieces c = λ Z T H I. c.loop-t.invariant.pieces Z T H I ∙ ap (pieces Z T c.args.algebra.now.q H.basis) (omega arith)
