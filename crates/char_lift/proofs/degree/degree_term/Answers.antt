use Rattle.char_lift.proofs.Names.{◌≡◌, ◌*◌, ◌%◌, ap, ◌∙◌, get_or, ap₂, Table, phase, inverse, inverse_root}
use Rattle.char_lift.proofs.Residues.{product_of_three}
use Rattle.char_lift.proofs.degree.degree_term.Goals as goal

pub returns-clause-term : goal.returns-clause-term
returns-clause-term c =
    let s = c.args.twist.now in
    let f = c.args.powers.now in
    let x = c.args.x in
    let back : c.inverse-inverse.result ≡ inverse s.group x = c.inverse-inverse.ensures.inverse ∙ ap (λ (t : Table). inverse t x) c.group.ensures.group in
    c.product.ensures.product
    ∙ ap₂ (λ a b. (a * b) % f.q)
    (c.product-both.ensures.product
    ∙ ap₂ (λ a b. (a * b) % f.q) c.at.ensures.number (c.at-2.ensures.number ∙ ap (λ y. get_or c.args.ratios.now y 0) back))
    (c.inverse_root.ensures.inverse ∙ ap (inverse_root s f.q f.conductor f.root) (c.phase-phase.ensures.phase ∙ ap (phase s x) back))
    ∙ product_of_three f.q _ _ _
