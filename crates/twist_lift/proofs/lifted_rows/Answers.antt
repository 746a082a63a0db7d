use Rattle.std.proofs.Common.{rules, ◌≡◌, None, OnOk, IfOk, IfErr, subst}
use Rattle.char_lift.specs.Faults.{Refuses}
use Rattle.twist_lift.proofs.TwistLaws.{found_characters, found_below, same_fault, same_rows, period_modulus}
use Rattle.twist_lift.proofs.lifted_rows.Goals as goal

pub lift-requires : goal.lift-requires
lift-requires g c =
    (search rules, (search rules, (period_modulus _ _ _ c.requires.period, (search rules, (search rules, found_below c.args.ring.now c.args.twist.now c.args.central.now c.requires.characters)))))

pub returns-clause-faultless : goal.returns-clause-faultless
returns-clause-faultless g c =
    subst (λ fault. OnOk c.lift.result (fault ≡ None))
    (same_fault c.args.ring.now c.args.twist.now c.args.central.now (found_characters c.args.ring.now c.args.twist.now c.args.central.now c.requires.characters c.requires.width))
    c.lift.ensures.faultless

pub returns-clause-rows : goal.returns-clause-rows
returns-clause-rows g c =
    subst (λ wanted. IfOk c.lift.result (λ rows. rows ≡ wanted))
    (same_rows c.args.ring.now c.args.twist.now c.args.central.now (found_characters c.args.ring.now c.args.twist.now c.args.central.now c.requires.characters c.requires.width))
    c.lift.ensures.rows

pub returns-clause-refused : goal.returns-clause-refused
returns-clause-refused g c =
    subst (λ fault. IfErr c.lift.result (λ why. Refuses why fault))
    (same_fault c.args.ring.now c.args.twist.now c.args.central.now (found_characters c.args.ring.now c.args.twist.now c.args.central.now c.requires.characters c.requires.width))
    c.lift.ensures.refused
