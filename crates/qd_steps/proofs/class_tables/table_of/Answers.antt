use Rattle.qd_steps.proofs.Names.{subst, ◌∙◌, RowsOver, cause_over, IsRefusalFor}
use Rattle.qd_steps.proofs.TableCauses.{check_refused}
use Rattle.qd_steps.proofs.class_tables.table_of.Goals as goal

pub returns-clause-refused : goal.returns-clause-refused
returns-clause-refused g c =
    subst (λ (rows : RowsOver). IsRefusalFor (cause_over g.row.K rows) c.refusal_of.result) c.class.view_is
    (check_refused g.row.K _ _ c.in-Err.refusal c.refusal_of.result c.in-Err.ensures.checks (λ s table miss same refuses. c.refusal_of.ensures.missed s table miss (c.at-at.ensures.at ∙ same) refuses)
    c.refusal_of.ensures.memory)
