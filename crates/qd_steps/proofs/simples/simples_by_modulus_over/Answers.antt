use Rattle.qd_steps.proofs.Names.{◌≡◌, ◌%◌, None, true, List, OnOk, IfOk, IfErr, sym, subst, ◌∙◌, arith, err_from_is_err_and, is_conductor, IsCocycle, RowsOver, root_order, lifted_blocks, IsRefusalFor}
use Rattle.qd_steps.proofs.TableSteps.{one_table_each, tables_few}
use Rattle.qd_steps.proofs.LiftSteps.{lift_goes_first, tables_decide}
use Rattle.qd_steps.proofs.TwistLists.{twists_served, lifted_tables, same_lifts}
use Rattle.qd_steps.proofs.simples.simples_by_modulus_over.Goals as goal

pub lifted_classes-requires : goal.lifted_classes-requires
lifted_classes-requires g c =
    let serves = twists_served c.args.w c.args.twists.now c.requires.twists c.args.ring.now
    (record {
      cocycle = c.group-group.ensures.cocycle;
      over = c.requires.over;
      multiple = subst (λ k. k % root_order c.args.w ≡ 0) (sym c.requires.conductor) c.requires.multiple;
    }) in
    (omega arith, (c.requires.conductor, serves))

pub returns-in_err-rows-clause-refused : goal.returns-in_err-rows-clause-refused
returns-in_err-rows-clause-refused g c =
    let p = err_from_is_err_and c.from_residual.result c.from_residual.ensures.1 in
    rw (p.1, p.2)
    (lift_goes_first c.args.ring.now c.args.w c.in_err-rows.field-0.0
    (subst (λ cause. IsRefusalFor cause c.in_err-rows.field-0.0) (same_lifts c.args.w c.args.twists.now c.requires.twists c.args.ring.now) c.in_err-rows.ensures.refused))

pub simples_of-requires : goal.simples_of-requires
simples_of-requires g c =
    let blocks = lifted_blocks c.args.ring.now c.args.w in
    let are = lifted_tables c.args.w c.args.twists.now c.requires.twists c.args.ring.now c.in_ok-rows.rows.items c.in_ok-rows.ensures.rows in (
      omega arith,
      (
        omega arith,
        (
          subst (λ k. is_conductor k ≡ true) c.requires.conductor c.args.ring.now.entry,
          (
            c.requires.classes,
            (one_table_each c.args.w blocks c.in_ok-rows.rows.items are, tables_few c.args.w blocks (subst IsCocycle c.w.view_is c.w.invariant) c.in_ok-rows.rows.items are),
          ),
        ),
      ),
    )

pub returns-clause-simples : goal.returns-clause-simples
returns-clause-simples g c =
    subst (λ (tables : List RowsOver). IfOk c.simples_of.result (λ simples. simples ≡ record { cocycle = c.args.w; tables = tables }))
    (lifted_tables c.args.w c.args.twists.now c.requires.twists c.args.ring.now c.in_ok-rows.rows.items c.in_ok-rows.ensures.rows)
    c.simples_of.ensures.simples

pub returns-clause-passed : goal.returns-clause-passed
returns-clause-passed g c =
    let are = lifted_tables c.args.w c.args.twists.now c.requires.twists c.args.ring.now c.in_ok-rows.rows.items c.in_ok-rows.ensures.rows in
    let lifted = sym (same_lifts c.args.w c.args.twists.now c.requires.twists c.args.ring.now) ∙ c.in_ok-rows.ensures.lifted in
    subst (λ cause. OnOk c.simples_of.result (cause ≡ None)) (tables_decide c.args.ring.now c.args.w g.row.K c.in_ok-rows.rows.items c.requires.conductor lifted are)
    c.simples_of.ensures.passed

pub returns-clause-refused : goal.returns-clause-refused
returns-clause-refused g c =
    let are = lifted_tables c.args.w c.args.twists.now c.requires.twists c.args.ring.now c.in_ok-rows.rows.items c.in_ok-rows.ensures.rows in
    let lifted = sym (same_lifts c.args.w c.args.twists.now c.requires.twists c.args.ring.now) ∙ c.in_ok-rows.ensures.lifted in
    subst (λ cause. IfErr c.simples_of.result (IsRefusalFor cause)) (tables_decide c.args.ring.now c.args.w g.row.K c.in_ok-rows.rows.items c.requires.conductor lifted are)
    c.simples_of.ensures.refused
