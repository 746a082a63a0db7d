use Rattle.qd_steps.proofs.Names.{◌≡◌, List, [], ◌∷◌, ◌++◌, sym, ap, ◌∙◌, into_iter_items, err_from_is_err_and, RowsOver, append_assoc}
use Rattle.qd_steps.proofs.TableSteps.{none_yet, next_passes, next_refused}
use Rattle.qd_steps.proofs.class_tables.tables_of.Goals as goal

pub loop-class-init : goal.loop-class-init
loop-class-init g c = record {
  can = tt;
  finite = tt;
  kept = ap (λ (done : List RowsOver). done ++ into_iter_items c.into_iter-class-iterator.result) c.empty-tables.ensures ∙ c.into_iter-class-iterator.ensures.into_iter_gives.0;
  passed = none_yet c.empty-tables.result _ c.empty-tables.ensures;
}

pub returns-in_err-table-clause-refused : goal.returns-in_err-table-clause-refused
returns-in_err-table-clause-refused g c =
    let left = into_iter_items c.next.new.self in
    let whole : c.loop-class.tables ++ c.in-Some.class ∷ left ≡ c.args.classes.items =
    ap (λ (rest : List RowsOver). c.loop-class.tables ++ rest) (sym c.in-Some.ensures.steps.0) ∙ c.loop-class.invariant.kept in
    let p = err_from_is_err_and c.from_residual.result c.from_residual.ensures.1 in
    rw (p.1, p.2)
    (next_refused g.row.K c.loop-class.tables c.in-Some.class left c.args.classes.items whole c.in_err-table.field-0.0 c.loop-class.invariant.passed c.in_err-table.ensures.refused)

pub loop-class-preserved : goal.loop-class-preserved
loop-class-preserved g c =
    let left = into_iter_items c.next.new.self in
    let whole : c.loop-class.tables ++ c.in-Some.class ∷ left ≡ c.args.classes.items =
    ap (λ (rest : List RowsOver). c.loop-class.tables ++ rest) (sym c.in-Some.ensures.steps.0) ∙ c.loop-class.invariant.kept in
    let more : c.push.new.self ≡ c.loop-class.tables ++ c.in-Some.class ∷ [] =
    c.in_ok-push.ensures.added ∙ ap (λ (table : RowsOver). c.loop-class.tables ++ table ∷ []) c.in_ok-table.ensures.table in
    record {
      can = tt;
      finite = tt;
      kept = ap (λ (done : List RowsOver). done ++ left) more ∙ append_assoc c.loop-class.tables (c.in-Some.class ∷ []) left ∙ whole;
      passed = next_passes g.row.K c.loop-class.tables c.in-Some.class left c.args.classes.items whole c.push.new.self more c.loop-class.invariant.passed c.in_ok-table.ensures.passed;
    }
