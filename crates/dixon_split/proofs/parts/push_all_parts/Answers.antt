use Rattle.dixon_split.proofs.Names.{◌∙◌, ◌++◌, map, ap, sym, subst, add-one, parts_below, residues, ArePowers}
use Rattle.dixon_split.proofs.PushedParts.{none_added}
use Rattle.dixon_split.proofs.parts.push_all_parts.Goals as goal

pub loop-v-init : goal.loop-v-init
loop-v-init c = record {
  elements = c.requires.elements;
  parts = λ Z T H. none_added c.args.algebra.now Z T H (H.basis c.args.t) (residues c.args.algebra.now c.args.e.now) (map (λ piece. residues c.args.algebra.now piece.items) c.args.pieces.now.items);
}

pub loop-v-preserved : goal.loop-v-preserved
loop-v-preserved c = record {
  elements = c.in_ok-push_part.ensures.elements;
  parts = λ Z T H.
      c.in_ok-push_part.ensures.part Z T H c.args.t c.args.e.now (map (λ piece. residues c.args.algebra.now piece.items) c.args.pieces.now.items)
      (subst (ArePowers c.args.algebra.now c.args.t c.args.e.now c.args.algebra.now.q) (sym c.as_slice.ensures.value) c.in_ok-powers.ensures.powers) (c.loop-v.invariant.parts Z T H)
      ∙ ap (λ n. map (λ piece. residues c.args.algebra.now piece.items) c.args.pieces.now.items ++ parts_below Z T c.args.algebra.now.q (H.basis c.args.t) (residues c.args.algebra.now c.args.e.now) n) (sym (add-one c.loop-v.v));
}
