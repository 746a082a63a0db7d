use Rattle.qd_doc.proofs.Names.{err_from_is_err_and, length, refl, sym, tokens_from, ◌∙◌}
use Rattle.qd_doc.proofs.Parts.{none_open, go}
use Rattle.qd_doc.proofs.Loops.{fails_on, goes_on, part_read, blocks_step}
use Rattle.qd_doc.proofs.characters.blocks.Goals as goal

pub loop-blocks-init : goal.loop-blocks-init
loop-blocks-init c =
    rw c.empty-blocks.ensures.empty (record { offset = c.requires.offset; opened = none_open; left = refl })

pub returns-in_err-part-clause-gives : goal.returns-in_err-part-clause-gives
returns-in_err-part-clause-gives c =
    let bytes = c.args.bytes.now.items in
    let p = err_from_is_err_and c.from_residual.result c.from_residual.ensures.1 in
    let l = c.loop-blocks in
    rw (p.1, p.2) (fails_on _ _ (sym l.invariant.left ∙ blocks_step (length bytes) c.args.phi l.stage l.blocks (tokens_from l.next bytes)) c.in_err-part.field-0.0 c.in_err-part.ensures.gives)

pub returns-then-is_end-clause-gives : goal.returns-then-is_end-clause-gives
returns-then-is_end-clause-gives c =
    let bytes = c.args.bytes.now.items in
    let l = c.loop-blocks in
    let part = c.in_ok-part.part in
    let after = tokens_from c.in_ok-part.after bytes in
    let next = goes_on _ _ (sym l.invariant.left ∙ blocks_step (length bytes) c.args.phi l.stage l.blocks (tokens_from l.next bytes)) (part, after) c.in_ok-part.ensures.gives in
    sym (rw (← c.if-is_end.ensures.end) at next)

pub add-requires : goal.add-requires
add-requires c =
    let bytes = c.args.bytes.now.items in
    let l = c.loop-blocks in
    let part = c.in_ok-part.part in
    let token = part_read (length bytes) c.args.phi l.stage (tokens_from l.next bytes) (tokens_from c.in_ok-part.after bytes) part c.in_ok-part.ensures.gives in
    record { place = (go c.args.phi token.start token.text l.stage l.blocks part l.invariant.opened token.fits token.said (sym c.if-is_end.ensures.end)).0 }

pub loop-blocks-preserved : goal.loop-blocks-preserved
loop-blocks-preserved c =
    let bytes = c.args.bytes.now.items in
    let l = c.loop-blocks in
    let part = c.in_ok-part.part in
    let after = tokens_from c.in_ok-part.after bytes in
    let token = part_read (length bytes) c.args.phi l.stage (tokens_from l.next bytes) after part c.in_ok-part.ensures.gives in
    let next = goes_on _ _ (sym l.invariant.left ∙ blocks_step (length bytes) c.args.phi l.stage l.blocks (tokens_from l.next bytes)) (part, after) c.in_ok-part.ensures.gives in
    rw (c.stage_of-stage.ensures.stage, c.in_ok-add.ensures.added) (record {
      offset = c.in_ok-part.ensures.offset;
      opened = (go c.args.phi token.start token.text l.stage l.blocks part l.invariant.opened token.fits token.said (sym c.if-is_end.ensures.end)).1;
      left = rw (← c.if-is_end.ensures.end) at next;
    })
