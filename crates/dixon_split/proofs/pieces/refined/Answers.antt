use Rattle.dixon_split.proofs.Names.{◌∙◌, ◌++◌, map, take, ap, sym, arith, flat_map, parts_below, residues}
use Rattle.dixon_split.proofs.Refining.{refined_more, take_whole, good_here}
use Rattle.dixon_split.proofs.pieces.refined.Goals as goal

pub loop-piece-preserved : goal.loop-piece-preserved
loop-piece-preserved c = record {
  elements = c.in_ok-push_parts.ensures.elements;
  parts = λ Z T H I all.
      (let good = good_here c.args.algebra.now Z (λ piece. residues c.args.algebra.now piece.items) c.args.pieces.now c.loop-piece.piece-index c.piece-item.result (residues c.args.algebra.now c.as_slice.result.now) c.loop-piece-test.true c.piece-item.is (ap (residues c.args.algebra.now) c.as_slice.ensures.value) all in
      c.in_ok-push_parts.ensures.parts Z T H I good.0 good.1
      ∙ ap (λ xs. xs ++ parts_below Z T c.args.algebra.now.q (H.basis c.args.t) (residues c.args.algebra.now c.as_slice.result.now) c.args.algebra.now.q) (c.loop-piece.invariant.parts Z T H I all)
      ∙ ap (λ e. flat_map (λ e. parts_below Z T c.args.algebra.now.q (H.basis c.args.t) e c.args.algebra.now.q) (map (λ piece. residues c.args.algebra.now piece.items) (take c.loop-piece.piece-index c.args.pieces.now)) ++ parts_below Z T c.args.algebra.now.q (H.basis c.args.t) e c.args.algebra.now.q) (ap (residues c.args.algebra.now) c.as_slice.ensures.value)
      ∙ sym (refined_more (λ piece. residues c.args.algebra.now piece.items) (λ e. parts_below Z T c.args.algebra.now.q (H.basis c.args.t) e c.args.algebra.now.q) c.loop-piece.piece-index c.args.pieces.now c.piece-item.result c.loop-piece-test.true c.piece-item.is));
}

pub returns-clause-parts : goal.returns-clause-parts
returns-clause-parts c = λ Z T H I all.
    c.loop-piece.invariant.parts Z T H I all
    ∙ ap (λ xs. flat_map (λ e. parts_below Z T c.args.algebra.now.q (H.basis c.args.t) e c.args.algebra.now.q) (map (λ piece. residues c.args.algebra.now piece.items) xs)) (take_whole c.loop-piece.piece-index c.args.pieces.now (omega arith))
