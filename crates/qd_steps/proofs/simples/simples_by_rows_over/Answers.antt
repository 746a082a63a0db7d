use Rattle.qd_steps.proofs.Names.{◌≡◌, None, List, OnOk, IfOk, IfErr, sym, ap, subst, ◌∙◌, arith, IsCocycle, RowsOver, first_cause, IsRefusalFor}
use Rattle.qd_steps.proofs.TableSteps.{one_table_each, tables_few, same_causes}
use Rattle.qd_steps.proofs.TwistLists.{twists_number, stated_shaped, stated_tables}
use Rattle.qd_steps.proofs.simples.simples_by_rows_over.Goals as goal

pub stated_classes-requires : goal.stated_classes-requires
stated_classes-requires g c =
    let number = twists_number c.args.w c.args.twists.now c.requires.twists in
    let shaped = stated_shaped c.args.w c.args.twists.now c.requires.twists c.args.given.now g.row.K c.requires.matched c.requires.conductor c.requires.multiple in
    (omega arith, (c.requires.conductor, (c.requires.matched.count ∙ sym number, (shaped, c.requires.values))))

pub simples_of-requires : goal.simples_of-requires
simples_of-requires g c =
    let are = stated_tables c.args.w c.args.twists.now c.requires.twists c.args.given.now c.in_ok-rows.rows.items c.in_ok-rows.ensures.rows in (
      omega arith,
      (
        omega arith,
        (
          c.requires.conductor,
          (
            c.requires.classes,
            (one_table_each c.args.w c.args.given.now c.in_ok-rows.rows.items are, tables_few c.args.w c.args.given.now (subst IsCocycle c.w.view_is c.w.invariant) c.in_ok-rows.rows.items are),
          ),
        ),
      ),
    )

pub returns-clause-simples : goal.returns-clause-simples
returns-clause-simples g c =
    subst (λ (tables : List RowsOver). IfOk c.simples_of.result (λ simples. simples ≡ record { cocycle = c.args.w; tables = tables }))
    (stated_tables c.args.w c.args.twists.now c.requires.twists c.args.given.now c.in_ok-rows.rows.items c.in_ok-rows.ensures.rows)
    c.simples_of.ensures.simples

pub returns-clause-passed : goal.returns-clause-passed
returns-clause-passed g c =
    let are = stated_tables c.args.w c.args.twists.now c.requires.twists c.args.given.now c.in_ok-rows.rows.items c.in_ok-rows.ensures.rows in
    subst (λ cause. OnOk c.simples_of.result (cause ≡ None)) (ap (first_cause g.row.K) are ∙ same_causes c.args.w c.args.given.now g.row.K)
    c.simples_of.ensures.passed

pub returns-clause-refused : goal.returns-clause-refused
returns-clause-refused g c =
    let are = stated_tables c.args.w c.args.twists.now c.requires.twists c.args.given.now c.in_ok-rows.rows.items c.in_ok-rows.ensures.rows in
    subst (λ cause. IfErr c.simples_of.result (IsRefusalFor cause)) (ap (first_cause g.row.K) are ∙ same_causes c.args.w c.args.given.now g.row.K)
    c.simples_of.ensures.refused
