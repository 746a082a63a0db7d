use Rattle.dixon_split.proofs.Names.{◌≡◌, ◌∙◌, ◌++◌, ◌∷◌, [], ◌<◌, map, ap, sym, number, parts_single, residues}
use Rattle.dixon_split.proofs.PushedParts.{map_push}
use Rattle.dixon_split.proofs.Refining.{some_at}
use Rattle.dixon_split.proofs.pieces.push_parts.Goals as goal

pub returns-in_ok-push-in-Some-clause-parts : goal.returns-in_ok-push-in-Some-clause-parts
returns-in_ok-push-in-Some-clause-parts c = λ Z T H I there idem.
    ap (λ xs. map (λ piece. residues c.args.algebra.now piece.items) xs) c.in_ok-push-in-Some.ensures.items
    ∙ map_push (λ piece. residues c.args.algebra.now piece.items) c.args.pieces.now.items c.in_ok-piece-in-Some.piece
    ∙ ap (λ x. map (λ piece. residues c.args.algebra.now piece.items) c.args.pieces.now.items ++ x ∷ []) (ap (residues c.args.algebra.now) c.in_ok-piece-in-Some.ensures.items)
    ∙ ap (λ ps. map (λ piece. residues c.args.algebra.now piece.items) c.args.pieces.now.items ++ ps)
    (sym (parts_single Z T c.args.algebra.now.q I (H.basis c.args.t) (residues c.args.algebra.now c.args.e.now) c.in-Some._v
    (some_at c.in_ok-_v.field-0 c.in-Some._v (λ v. v < c.args.algebra.now.q) c.in-Some.is c.in_ok-_v.ensures.below) there idem
    (some_at c.in_ok-_v.field-0 c.in-Some._v (λ v. Z.mul (H.basis c.args.t) (residues c.args.algebra.now c.args.e.now) ≡ Z.mul (number Z v) (residues c.args.algebra.now c.args.e.now)) c.in-Some.is (c.in_ok-_v.ensures.acts Z H))))

pub returns-in-None-clause-parts : goal.returns-in-None-clause-parts
returns-in-None-clause-parts c = λ Z T H I there idem. c.push_all_parts.ensures.parts Z T H
