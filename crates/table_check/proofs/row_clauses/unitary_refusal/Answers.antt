use Rattle.table_check.proofs.Names.{rules, ap, ◌∙◌, size, characters_of, unitary_at}
use Rattle.table_check.proofs.Walks.{finds_pairs}
use Rattle.table_check.proofs.row_clauses.unitary_refusal.Goals as goal

pub returns : goal.returns
returns g c =
    let t = c.args.table.now in
    record {
      finds = finds_pairs t.over (characters_of g.row.K t.rows) _ _ _ _ _ (unitary_at t.over (characters_of g.row.K t.rows))
          c.first_of_pairs.ensures.first c.rows-rows.ensures.rows (c.size-places.ensures.size ∙ ap (λ s. size s) c.over.ensures.over)
          (λ i x r below less is. search rules);
    }
