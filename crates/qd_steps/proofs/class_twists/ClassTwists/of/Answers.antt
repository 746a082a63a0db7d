use Rattle.qd_steps.proofs.Names.{length, le_antisymm, ap, ◌∙◌, arith, length-map-range_with_len, representatives, representative_at, twist_of, Table, class_twist}
use Rattle.qd_steps.proofs.TableSteps.{one_more}
use Rattle.qd_steps.proofs.TwistLists.{all_twists}
use Rattle.qd_steps.proofs.class_twists.ClassTwists.of.Goals as goal

pub loop-c-init : goal.loop-c-init
loop-c-init c = c.new-twists.ensures.items

pub loop-c-preserved : goal.loop-c-preserved
loop-c-preserved c =
    let w = c.args.w.now in
    let at = c.representative.ensures.representative ∙ ap (λ (t : Table). representative_at t c.loop-c.c) c.requires.group in
    one_more (class_twist w) c.loop-c.c c.loop-c.twists.items c.push_twist.new.twists.items c.in_ok-twist.twist c.in_ok-push_twist.ensures.added c.loop-c.invariant
    (c.in_ok-twist.ensures.twist ∙ ap (twist_of w) at)

pub invariant_of-result : goal.invariant_of-result
invariant_of-result c =
    let count = ap length c.loop-c.invariant ∙ length-map-range_with_len (class_twist c.args.w.now) 0 c.loop-c.c in
    omega (arith, count, c.loop-c.auto.c-end, c.count-c-end.ensures.at_most_order, c.count-c-end.ensures.small.to_sixty)

pub returns : goal.returns
returns c =
    let number = le_antisymm c.loop-c.auto.c-end c.loop-c-test.false ∙ c.count-c-end.ensures.count ∙ ap (λ (t : Table). length (representatives t)) c.requires.group in
    record { twists = all_twists c.args.w.now c.loop-c.c c.loop-c.twists.items number c.loop-c.invariant }
