-- Each number is changed, and every number on the way fits.
use Rattle.qd_ring.proofs.Names.{◌+ℤ◌, ◌*ℤ◌, ap, sym, ◌∙◌, arith, rules, get_or, neg_ℤ, pos, to_z-of_z, w8, w128, SFits, to_z, of_z, plus, scaled}
use Rattle.qd_ring.proofs.BufferLaws.{size_at, read_at, plus_none, small_now, one_added, all_added, sign_swaps}
use Rattle.qd_ring.proofs.cyc_buffer.combine.Goals as goal

pub loop-j-init : goal.loop-j-init
loop-j-init c = sym (plus_none c.args.a.now)

pub less_signed-requires-clause-a_small : goal.less_signed-requires-clause-a_small
less_signed-requires-clause-a_small c =
    small_now (neg_ℤ (to_z w8 (of_z w8 c.args.sign))) c.args.b.now c.args.a.now c.loop-j.a c.loop-j.j c.requires.a_room c.loop-j.invariant

pub less_signed-requires-clause-c_small : goal.less_signed-requires-clause-c_small
less_signed-requires-clause-c_small c = rw (read_at c.args.b.now c.loop-j.j c.requires.b_room) (omega (arith, size_at c.args.b.now c.loop-j.j, c.requires.b_room))

pub less_signed-requires-clause-ternary : goal.less_signed-requires-clause-ternary
less_signed-requires-clause-ternary c = rw (to_z-of_z w8 c.args.sign c.ranges.sign) c.requires.ternary

pub loop-j-preserved : goal.loop-j-preserved
loop-j-preserved c =
    let s = to_z w8 (of_z w8 c.args.sign) in
    let fits : SFits w128 c.less_signed.result = search rules in
    one_added (neg_ℤ s) c.args.b.now c.args.a.now c.loop-j.a c.loop-j.j c.requires.a_room c.loop-j.invariant c.loop-j-test.true (omega (arith, c.requires.same)) c.less_signed.result fits
    (c.less_signed.ensures
    ∙ ap (λ z. to_z w128 (of_z w128 (get_or c.loop-j.a c.loop-j.j (pos 0))) +ℤ z)
    (ap (λ y. neg_ℤ y *ℤ s) (read_at c.args.b.now c.loop-j.j c.requires.b_room) ∙ sign_swaps s (get_or c.args.b.now c.loop-j.j (pos 0))))

pub returns : goal.returns
returns c =
    let s = to_z w8 (of_z w8 c.args.sign) in
    all_added (neg_ℤ s) c.args.b.now c.args.a.now c.loop-j.a c.loop-j.j c.requires.a_room c.loop-j.invariant (omega arith)
    ∙ ap (λ z. plus c.args.a.now (scaled (neg_ℤ z) c.args.b.now)) (to_z-of_z w8 c.args.sign c.ranges.sign)
