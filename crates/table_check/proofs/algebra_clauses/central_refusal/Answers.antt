use Rattle.table_check.proofs.Names.{rules, ap, ◌∙◌, length, size, characters_of, central_at}
use Rattle.table_check.proofs.Walks.{finds_triples}
use Rattle.table_check.proofs.algebra_clauses.central_refusal.Goals as goal

pub returns : goal.returns
returns g c =
    let t = c.args.table.now in
    let rows = c.rows-rows.ensures.rows ∙ ap (λ t. length t.rows) c.candidate.ensures.candidate in
    let places = c.size-places.ensures.size ∙ ap (λ s. size s) (c.over.ensures.over ∙ ap (λ t. t.over) c.candidate-2.ensures.candidate) in
    record {
      finds = finds_triples t.over (characters_of g.row.K t.rows) _ _ _ _ _ _ _ (central_at t.over (characters_of g.row.K t.rows))
          c.first_of_triples.ensures.first rows places places (λ i y x r below less under is. search rules);
    }
