use Rattle.transport.proofs.Names.{◌<◌, length, subst, sym, ap, arith, ◌∙◌, ◌≡◌, IsTwist, element, size, RowsOver, SimplesOver, count, simple_in}
use Rattle.transport.proofs.Listed.{IsRow, entry_is_row, over_is_twist, place_small}
use Rattle.transport.proofs.simples.Simples.element_value.Goals as goal
use Rattle.transport.proofs.simples.Simples.element_value.Given.{Over}
use Rattle.transport.proofs.simples.Simples.element_value.Goals.{After-index-entry}

is_row : (g : Over) (c : After-index-entry g) → IsRow g.row.K c.self.inside.tables (simple_in g.row.K c.index-entry.result.now)
is_row g c =
    let k = g.row.K in
    entry_is_row k c.self.inside.tables c.self.inside.entries.items c.self.invariant.listed c.args.i c.index-entry.result.now
    (subst (λ (s : SimplesOver). c.args.i < count k s) (sym c.self.view_is) c.requires.i_below) c.index-entry.ensures

pub at-table-requires : goal.at-table-requires
at-table-requires g c = (omega arith, (omega arith, (is_row g c).class_below))

pub value-requires : goal.value-requires
value-requires g c = (
  omega arith,
  (
    omega arith,
    (
      subst (λ (t : RowsOver). c.index-entry.result.now.row < length t.rows) (sym c.at-table.ensures.table) (is_row g (goal.at.value-requires g c).After-index-entry).row_below,
      subst (λ t. c.unwrap_or.result < size t) c.over.ensures.over
          (place_small c.over.result.now (λ p. element c.over.result.now p ≡ c.args.x) c.place.result c.unwrap_or.result
          (subst IsTwist (sym (c.over.ensures.over ∙ ap (λ (t : RowsOver). t.over) c.at-table.ensures.table))
          (over_is_twist g.row.K _ c.self.invariant.simples c.index-entry.result.now.class (is_row g (goal.at.value-requires g c).After-index-entry).class_below))
          c.place.ensures.there c.unwrap_or.ensures),
    ),
  ),
)
