-- Each number is changed as in a step of long division, and every number on the way fits.
use Rattle.qd_ring.proofs.Names.{◌≤◌, ◌+ℤ◌, ◌*ℤ◌, ap, ap₂, sym, ◌∙◌, arith, rules, get_or, nat_abs, neg_ℤ, pos, w128, SFits, to_z, of_z, leading}
use Rattle.qd_ring.proofs.BufferLaws.{size_at, read_8, plus_none, small_now, one_added, all_added, cancel_last, leading_small, cancels, cancel_nothing}
use Rattle.qd_ring.proofs.cyc_buffer.cancel.Goals as goal

pub returns-then-last-eq0 : goal.returns-then-last-eq0
returns-then-last-eq0 c = cancel_nothing c.args.low.now c.args.window.now c.requires.size c.requires.room (ap (to_z w128) c.if-last-eq0.true)

pub loop-j-init : goal.loop-j-init
loop-j-init c = sym (plus_none c.args.window.now)

pub less_signed-requires-clause-a_small : goal.less_signed-requires-clause-a_small
less_signed-requires-clause-a_small c =
    small_now (neg_ℤ (leading c.args.window.now)) c.args.low.now c.args.window.now c.loop-j.window c.loop-j.j c.requires.room c.loop-j.invariant

pub less_signed-requires-clause-c_small : goal.less_signed-requires-clause-c_small
less_signed-requires-clause-c_small c =
    rw (cancel_last c.args.low.now c.args.window.now c.requires.size c.requires.room)
    (leading_small c.args.low.now c.args.window.now c.requires.size c.requires.room)

pub less_signed-requires-clause-ternary : goal.less_signed-requires-clause-ternary
less_signed-requires-clause-ternary c =
    let most : nat_abs (get_or c.args.low.now c.loop-j.j (pos 0)) ≤ 1 = omega (arith, size_at c.args.low.now c.loop-j.j, c.requires.ternary) in
    rw (read_8 (get_or c.args.low.now c.loop-j.j (pos 0)) most) most

pub loop-j-preserved : goal.loop-j-preserved
loop-j-preserved c =
    let low = c.args.low.now in
    let w = c.args.window.now in
    let fits : SFits w128 c.less_signed.result = search rules in
    one_added (neg_ℤ (leading w)) low w c.loop-j.window c.loop-j.j c.requires.room c.loop-j.invariant c.loop-j-test.true (omega (arith, c.requires.size)) c.less_signed.result fits
    (c.less_signed.ensures
    ∙ ap (λ z. to_z w128 (of_z w128 (get_or c.loop-j.window c.loop-j.j (pos 0))) +ℤ z)
    (ap₂ (λ x y. neg_ℤ x *ℤ y) (cancel_last low w c.requires.size c.requires.room)
    (read_8 (get_or low c.loop-j.j (pos 0)) (omega (arith, size_at low c.loop-j.j, c.requires.ternary)))))

pub returns : goal.returns
returns c =
    all_added (neg_ℤ (leading c.args.window.now)) c.args.low.now c.args.window.now c.loop-j.window c.loop-j.j c.requires.room c.loop-j.invariant (omega arith)
    ∙ cancels c.args.low.now c.args.window.now c.requires.size
