use Rattle.table_check.proofs.Names.{rules, ap, ◌∙◌, size, characters_of, column_at}
use Rattle.table_check.proofs.Walks.{finds_pairs}
use Rattle.table_check.proofs.algebra_clauses.column_refusal.Goals as goal

pub returns : goal.returns
returns g c =
    let t = c.args.table.now in
    let places = c.size-places.ensures.size ∙ ap (λ s. size s) (c.over.ensures.over ∙ ap (λ t. t.over) c.candidate.ensures.candidate) in
    record {
      finds = finds_pairs t.over (characters_of g.row.K t.rows) _ _ _ _ _ (column_at t.over (characters_of g.row.K t.rows))
          c.first_of_pairs.ensures.first places places (λ x y r below less is. search rules);
    }
