use Rattle.dixon_split.proofs.Names.{◌∙◌, ap, sym, map, get_or, eqb, all_below, residues}
use Rattle.dixon_split.proofs.PushedParts.{map_push, skipped, added}
use Rattle.dixon_split.proofs.parts.push_part.Goals as goal

pub returns-then-is_zero-clause-part : goal.returns-then-is_zero-clause-part
returns-then-is_zero-clause-part c = λ Z T H t e before P h.
    skipped c.args.algebra.now Z T H (H.basis t) (residues c.args.algebra.now e) c.args.v before _ c.in_ok-part.part.items (c.in_ok-part.ensures.part Z H t e P)
    (ap (λ xs. all_below c.args.algebra.now.rank (λ k. eqb (get_or xs k 0) 0)) (sym c.as_slice.ensures.value) ∙ sym c.is_zero.ensures.zero ∙ c.if-is_zero.true) h

pub returns-clause-part : goal.returns-clause-part
returns-clause-part c = λ Z T H t e before P h.
    ap (λ xs. map (λ piece. residues c.args.algebra.now piece.items) xs) c.in_ok-push.ensures.items
    ∙ map_push (λ piece. residues c.args.algebra.now piece.items) c.args.pieces.now.items c.in_ok-part.part
    ∙ added c.args.algebra.now Z T H (H.basis t) (residues c.args.algebra.now e) c.args.v before _ c.in_ok-part.part.items c.in_ok-part.ensures.element (c.in_ok-part.ensures.part Z H t e P)
    (ap (λ xs. all_below c.args.algebra.now.rank (λ k. eqb (get_or xs k 0) 0)) (sym c.as_slice.ensures.value) ∙ sym c.is_zero.ensures.zero ∙ c.if-is_zero.false) h
