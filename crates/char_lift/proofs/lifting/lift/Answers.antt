use Rattle.char_lift.proofs.Names.{◌≡◌, ◌<◌, length, None, sym, ap, ◌∙◌, subst, arith, lit<, err_from_is_err_and, first-zero, first_none-step, ModRing, modulus_positive, AreBelow, central_value, character_ratios, row_fault, lifted_row, lifted_rows, Refuses, length-tabulated, tabulated-more}
use Rattle.char_lift.proofs.RatioLaws.{ratios_width, ratios_below}
use Rattle.char_lift.proofs.FaultLaws.{fault_at, rows_hold, rows_refused}
use Rattle.char_lift.proofs.lifting.lift.Goals as goal

pub loop-row-init : goal.loop-row-init
loop-row-init g c =
    let s = c.args.twist.now in
    let f = c.args.ring.now in
    record {
      lifted = c.empty-rows.ensures;
      holds = first-zero (fault_at s f.q f.conductor f.root 0 (central_value c.args.central.now));
    }

pub lift_row-requires : goal.lift_row-requires
lift_row-requires g c =
    let s = c.args.twist.now in
    let f = c.in_ok-powers.powers in
    let w = central_value c.args.central.now c.loop-row.row in
    let same = c.in_ok-powers.ensures.field in
    let positive = modulus_positive f.q f.listed in
    let all = length-tabulated c.loop-row.row (λ row. lifted_row s c.args.ring.now.q c.args.ring.now.conductor c.args.ring.now.root (character_ratios s c.args.ring.now.q c.args.ring.now.conductor c.args.ring.now.root (central_value c.args.central.now row))) in (
      lit< tt,
      (
        ap (λ (r : ModRing). r.conductor) same ∙ c.requires.conductor,
        (
          ap length c.in_ok-ratios.ensures.ratios ∙ ratios_width s f.q f.conductor f.root positive w,
          (
            subst (AreBelow f.q) (sym c.in_ok-ratios.ensures.ratios) (ratios_below s f.q f.conductor f.root positive w),
            (omega (arith, c.requires.over, ap (λ (r : ModRing). r.q) same), omega (arith, ap length c.loop-row.invariant.lifted, all, c.loop-row-test.true, c.count-row-end.ensures.count, c.count-row-end.ensures.small)),
          ),
        ),
      ),
    )

pub returns-in_err-lift_row-clause-refused : goal.returns-in_err-lift_row-clause-refused
returns-in_err-lift_row-clause-refused g c =
    let s = c.args.twist.now in
    let f = c.in_ok-powers.powers in
    let r = c.args.ring.now in
    let w = central_value c.args.central.now in
    let why = c.in_err-lift_row.field-0.0 in
    let row = c.loop-row.row in
    let p = err_from_is_err_and c.from_residual-in_err-lift_row.result c.from_residual-in_err-lift_row.ensures.1 in
    let inside : row < length c.args.central.now.lists = omega (arith, c.loop-row-test.true, c.count-row-end.ensures.count) in
    let here = subst (λ ratios. Refuses why (row_fault s f.q f.conductor f.root row ratios)) c.in_ok-ratios.ensures.ratios c.in_err-lift_row.ensures.refused in
    let there = subst (λ (m : ModRing). Refuses why (row_fault s m.q m.conductor m.root row (character_ratios s m.q m.conductor m.root (w row)))) c.in_ok-powers.ensures.field here in
    rw (p.1, p.2) (rows_refused s r.q r.conductor r.root (length c.args.central.now.lists) w why row inside c.loop-row.invariant.holds there)

pub loop-row-preserved : goal.loop-row-preserved
loop-row-preserved g c =
    let s = c.args.twist.now in
    let f = c.in_ok-powers.powers in
    let r = c.args.ring.now in
    let w = central_value c.args.central.now in
    let row = c.loop-row.row in
    let field = c.in_ok-powers.ensures.field in
    let here = subst (λ ratios. row_fault s f.q f.conductor f.root row ratios ≡ None) c.in_ok-ratios.ensures.ratios c.in_ok-lift_row.ensures.faultless in
    record {
      lifted =
          tabulated-more row (λ i. lifted_row s r.q r.conductor r.root (character_ratios s r.q r.conductor r.root (w i))) c.loop-row.invariant.lifted c.in_ok-lift_row.ensures.added
          (ap (lifted_row s f.q f.conductor f.root) c.in_ok-ratios.ensures.ratios
          ∙ ap (λ (m : ModRing). lifted_row s m.q m.conductor m.root (character_ratios s m.q m.conductor m.root (w row))) field);
      holds = first_none-step row (fault_at s r.q r.conductor r.root 0 w) c.loop-row.invariant.holds
          (subst (λ (m : ModRing). row_fault s m.q m.conductor m.root row (character_ratios s m.q m.conductor m.root (w row)) ≡ None) field here);
    }

pub returns-clause-faultless : goal.returns-clause-faultless
returns-clause-faultless g c =
    let r = c.args.ring.now in
    let ended : c.loop-row.row ≡ length c.args.central.now.lists = omega (arith, c.loop-row-test.false, c.loop-row.auto.row-end, c.count-row-end.ensures.count) in
    rows_hold c.args.twist.now r.q r.conductor r.root (length c.args.central.now.lists) (central_value c.args.central.now) c.loop-row.row ended c.loop-row.invariant.holds

pub returns-clause-rows : goal.returns-clause-rows
returns-clause-rows g c =
    let r = c.args.ring.now in
    let ended : c.loop-row.row ≡ length c.args.central.now.lists = omega (arith, c.loop-row-test.false, c.loop-row.auto.row-end, c.count-row-end.ensures.count) in
    c.loop-row.invariant.lifted ∙ ap (λ n. lifted_rows c.args.twist.now r.q r.conductor r.root n (central_value c.args.central.now)) ended
