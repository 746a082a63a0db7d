use Rattle.std.proofs.Common.{arith, ◌∙◌}
use Rattle.qd_steps.proofs.stated.stated_class.Goals as goal

pub new-requires : goal.new-requires
new-requires g c =
    let same = c.in_ok-twist.ensures.same ∙ c.at.ensures.twist in (
      omega arith,
      (omega arith, rw (same, c.in_ok-rows.ensures.rows) c.requires.shaped),
    )
