use Rattle.qd_steps.proofs.Names.{map, le_antisymm, ap, ◌∙◌, range_with_len, stated_over}
use Rattle.qd_steps.proofs.TableSteps.{one_more}
use Rattle.qd_steps.proofs.stated.stated_classes.Goals as goal

pub loop-c-init : goal.loop-c-init
loop-c-init g c = c.new-all.ensures.items

pub loop-c-preserved : goal.loop-c-preserved
loop-c-preserved g c =
    one_more (stated_over c.args.twists.now c.args.blocks.now) c.loop-c.c c.loop-c.all.items c.push_class.new.all.items c.in_ok-class.class c.in_ok-push_class.ensures.added
    c.loop-c.invariant c.in_ok-class.ensures.rows

pub returns : goal.returns
returns g c =
    let all = le_antisymm c.loop-c.auto.c-end c.loop-c-test.false ∙ c.count-c-end.ensures.count in
    record { rows = c.loop-c.invariant ∙ ap (λ n. map (stated_over c.args.twists.now c.args.blocks.now) (range_with_len 0 n)) all }
