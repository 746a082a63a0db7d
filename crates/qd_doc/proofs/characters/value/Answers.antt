use Rattle.qd_doc.proofs.Names.{Err, NotValue, Ok, ap, refl, text_of}
use Rattle.qd_ring.specs.declared.plain.ValueFault.TheVariants.{Wide}
use Rattle.qd_doc.proofs.ValueWords.{value_is}
use Rattle.qd_doc.proofs.characters.value.Goals as goal

pub returns-in-Ok : goal.returns-in-Ok
returns-in-Ok c =
    let text = text_of c.args.bytes.now.items c.args.token in
    let e = value_is c.args.phi text c.requires.powers (Ok c.in-Ok.value) (c.in-Ok.ensures.spelled, c.in-Ok.ensures.small) in
    record { spelled = rw e refl }

pub returns-in-Err-NotValue : goal.returns-in-Err-NotValue
returns-in-Err-NotValue c =
    let text = text_of c.args.bytes.now.items c.args.token in
    let e = value_is c.args.phi text c.requires.powers (Err NotValue) (c.in-Err-NotValue.ensures.not_value.0 (ap Err c.in-Err-NotValue.field-0-is)) in
    record { spelled = rw e refl }

pub returns-in-Err-Wide : goal.returns-in-Err-Wide
returns-in-Err-Wide c =
    let text = text_of c.args.bytes.now.items c.args.token in
    let e = value_is c.args.phi text c.requires.powers (Err Wide) (c.in-Err-Wide.ensures.wide.0 (ap Err c.in-Err-Wide.field-0-is)) in
    record { spelled = rw e refl }
