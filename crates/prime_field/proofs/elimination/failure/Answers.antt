use Rattle.prime_field.proofs.Names.{refl, ap, ◌∙◌}
use Rattle.prime_field.proofs.ResidueRows.{dot_of_lists, row_taken}
use Rattle.prime_field.proofs.elimination.failure.Goals as goal

pub returns-clause-number : goal.returns-clause-number
returns-clause-number c = λ listed.
    c.dot.ensures.dot listed
    ∙ ap (λ z. z.value) (dot_of_lists c.args.q listed c.args.w _ _ _ _ c.requires.width (λ j h. refl) (row_taken c.args.q listed c.args.w c.args.f c.args.rows.now))
