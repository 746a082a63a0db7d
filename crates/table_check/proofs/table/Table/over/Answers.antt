use Rattle.table_check.proofs.Names.{subst, RowsOver, characters_of, IsGood}
use Rattle.table_check.proofs.Good.{nothing_missed}
use Rattle.table_check.proofs.table.Table.over.Goals as goal

pub returns-clause-good : goal.returns-clause-good
returns-clause-good g c =
    subst (λ (t : RowsOver). IsGood t.over (characters_of g.row.K t.rows)) c.self.view_is
    (nothing_missed c.self.inside.candidate.over (characters_of g.row.K c.self.inside.candidate.rows) c.self.invariant.1)
