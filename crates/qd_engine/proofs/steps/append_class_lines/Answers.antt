use Rattle.qd_engine.proofs.RankLaws.{ranks_small, ranks_number}
use Rattle.qd_engine.proofs.steps.append_class_lines.Goals as goal

pub append_classes-requires-clause-one_each : goal.append_classes-requires-clause-one_each
append_classes-requires-clause-one_each c = ranks_number c.args.w.now c.in_ok-list.list c.in_ok-list.ensures.list

pub append_classes-requires-clause-small : goal.append_classes-requires-clause-small
append_classes-requires-clause-small c = ranks_small c.args.w.now c.in_ok-list.list c.in_ok-list.ensures.list
