use Rattle.qd_steps.proofs.Names.{sym, subst, ◌∙◌, arith, Serves}
use Rattle.qd_steps.proofs.LiftedRows.{lifted_shaped}
use Rattle.qd_steps.proofs.lifted.lifted_class.Goals as goal

pub split-requires-clause-period : goal.split-requires-clause-period
split-requires-clause-period g c = rw (c.in_ok-twist.ensures.same, c.at.ensures.twist) c.requires.serves.period

pub split-requires-clause-over : goal.split-requires-clause-over
split-requires-clause-over g c = rw (c.in_ok-twist.ensures.same, c.at.ensures.twist) c.requires.serves.over

pub new-requires : goal.new-requires
new-requires g c =
    let serves = subst (Serves c.args.ring.now) (sym (c.in_ok-twist.ensures.same ∙ c.at.ensures.twist)) c.requires.serves in
    (omega arith, (omega arith, lifted_shaped c.args.ring.now g.row.K c.in_ok-twist.twist c.in-Ok.rows c.requires.conductor serves c.in-Ok.ensures.rows))
