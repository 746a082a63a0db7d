use Rattle.qd_steps.proofs.Names.{◌≡◌, ◌<◌, None, map, length, le_antisymm, ap, subst, ◌∙◌, range_with_len, err_from_is_err_and, first, first-zero, first_none-step, lifted_over, lift_cause_over}
use Rattle.qd_steps.proofs.TableSteps.{one_more, first_refused}
use Rattle.qd_steps.proofs.lifted.lifted_classes.Goals as goal

pub loop-c-init : goal.loop-c-init
loop-c-init g c = record {
  kept = c.new-all.ensures.items;
  lifted = first-zero _;
}

pub returns-in_err-class-clause-refused : goal.returns-in_err-class-clause-refused
returns-in_err-class-clause-refused g c =
    let p = err_from_is_err_and c.from_residual.result c.from_residual.ensures.1 in
    rw (p.1, p.2)
    (first_refused (length c.args.twists.now) c.loop-c.c (lift_cause_over c.args.twists.now c.args.ring.now) c.in_err-class.field-0.0
    (subst (λ n. c.loop-c.c < n) c.count-c-end.ensures.count c.loop-c-test.true) c.loop-c.invariant.lifted c.in_err-class.ensures.refused)

pub loop-c-preserved : goal.loop-c-preserved
loop-c-preserved g c = record {
  kept = one_more (lifted_over c.args.twists.now c.args.ring.now) c.loop-c.c c.loop-c.all.items c.push_class.new.all.items c.in_ok-class.class c.in_ok-push_class.ensures.added
      c.loop-c.invariant.kept c.in_ok-class.ensures.rows;
  lifted = first_none-step c.loop-c.c _ c.loop-c.invariant.lifted c.in_ok-class.ensures.lifted;
}

pub returns-clause-rows : goal.returns-clause-rows
returns-clause-rows g c =
    c.loop-c.invariant.kept
    ∙ ap (λ n. map (lifted_over c.args.twists.now c.args.ring.now) (range_with_len 0 n)) (le_antisymm c.loop-c.auto.c-end c.loop-c-test.false ∙ c.count-c-end.ensures.count)

pub returns-clause-lifted : goal.returns-clause-lifted
returns-clause-lifted g c =
    subst (λ n. first n (lift_cause_over c.args.twists.now c.args.ring.now) ≡ None)
    (le_antisymm c.loop-c.auto.c-end c.loop-c-test.false ∙ c.count-c-end.ensures.count) c.loop-c.invariant.lifted
