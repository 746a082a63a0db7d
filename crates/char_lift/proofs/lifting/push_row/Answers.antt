use Rattle.char_lift.proofs.Names.{◌≡◌, ℕ, ◌<◌, [], ◌∷◌, ◌++◌, length, None, ap, subst, arith, lit<, err_from_is_err_and, first, first-zero, first_none-step, size, array_of, tabulated, lifted_value, place_fault, length-tabulated}
use Rattle.char_lift.proofs.RowLaws.{value_added, rows_added}
use Rattle.char_lift.proofs.FaultLaws.{refused_first}
use Rattle.char_lift.proofs.lifting.push_row.Goals as goal

pub loop-x-init : goal.loop-x-init
loop-x-init g c =
    let s = c.args.twist.now in
    let f = c.args.powers.now in
    record {
      added = c.in_ok-push_row.ensures.added;
      holds = first-zero (place_fault s f.q f.conductor f.root c.args.row c.args.ratios.now c.args.degree);
    }

pub returns-in_err-value-clause-refused : goal.returns-in_err-value-clause-refused
returns-in_err-value-clause-refused g c =
    let f = c.args.powers.now in
    let p = err_from_is_err_and c.from_residual-in_err-value.result c.from_residual-in_err-value.ensures.1 in
    let inside : c.loop-x.x < size c.args.twist.now = omega (arith, c.loop-x-test.true, c.size-x-end.ensures.size) in
    rw (p.1, p.2)
    (refused_first c.in_err-value.field-0.0 (size c.args.twist.now) c.loop-x.x (place_fault c.args.twist.now f.q f.conductor f.root c.args.row c.args.ratios.now c.args.degree)
    inside c.loop-x.invariant.holds c.in_err-value.ensures.refused)

pub push_value-requires : goal.push_value-requires
push_value-requires g c =
    let s = c.args.twist.now in
    let f = c.args.powers.now in
    let value = λ (x : ℕ). array_of (lifted_value s f.q f.conductor f.root c.args.ratios.now c.args.degree x) in
    let shape = rows_added c.args.rows.now c.loop-x.rows (tabulated c.loop-x.x value) c.loop-x.invariant.added in
    (lit< tt, (lit< tt, (shape.0, omega (arith, ap length shape.1, length-tabulated c.loop-x.x value, c.loop-x-test.true))))

pub loop-x-preserved : goal.loop-x-preserved
loop-x-preserved g c =
    let s = c.args.twist.now in
    let f = c.args.powers.now in
    record {
      added =
          value_added c.args.rows.now c.loop-x.rows c.push_value.new.self c.loop-x.x (λ x. array_of (lifted_value s f.q f.conductor f.root c.args.ratios.now c.args.degree x))
          c.in_ok-value.value.coefficients c.loop-x.invariant.added c.in_ok-push_value.ensures.added c.in_ok-value.ensures.value;
      holds = first_none-step c.loop-x.x (place_fault s f.q f.conductor f.root c.args.row c.args.ratios.now c.args.degree) c.loop-x.invariant.holds c.in_ok-value.ensures.faultless;
    }

pub returns-clause-faultless : goal.returns-clause-faultless
returns-clause-faultless g c =
    let f = c.args.powers.now in
    let ended : c.loop-x.x ≡ size c.args.twist.now = omega (arith, c.loop-x-test.false, c.loop-x.auto.x-end, c.size-x-end.ensures.size) in
    subst (λ n. first n (place_fault c.args.twist.now f.q f.conductor f.root c.args.row c.args.ratios.now c.args.degree) ≡ None) ended c.loop-x.invariant.holds

pub returns-clause-added : goal.returns-clause-added
returns-clause-added g c =
    let f = c.args.powers.now in
    let ended : c.loop-x.x ≡ size c.args.twist.now = omega (arith, c.loop-x-test.false, c.loop-x.auto.x-end, c.size-x-end.ensures.size) in
    subst (λ n. c.loop-x.rows ≡ c.args.rows.now ++ tabulated n (λ x. array_of (lifted_value c.args.twist.now f.q f.conductor f.root c.args.ratios.now c.args.degree x)) ∷ []) ended
    c.loop-x.invariant.added
