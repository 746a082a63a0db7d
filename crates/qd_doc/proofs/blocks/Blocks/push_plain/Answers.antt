use Rattle.qd_doc.proofs.Names.{AreBlocks, ap, last_rows, length, stored_blocks, subst, sym, with_value, ◌<◌, ◌∙◌}
use Rattle.qd_doc.proofs.ValueLists.{on_ok}
use Rattle.qd_doc.proofs.BlockLists.{value_pushed, value_still, after}
use Rattle.qd_doc.proofs.blocks.Blocks.push_plain.Goals as goal

pub invariant_of-self : goal.invariant_of-self
invariant_of-self c =
    let heads = c.self.inside.heads.items in
    let starts = c.self.inside.rows.items in
    let values = c.self.inside.values in
    after c.push.result (AreBlocks heads starts c.push.new.self)
    (λ added. subst (AreBlocks heads starts) (sym added) (value_still heads starts values c.self.invariant c.args.v.now.coefficients))
    (λ same. subst (AreBlocks heads starts) (sym same) c.self.invariant)
    c.push.ensures.added c.push.ensures.unchanged

pub returns-clause-added : goal.returns-clause-added
returns-clause-added c =
    let heads = c.self.inside.heads.items in
    let starts = c.self.inside.rows.items in
    let values = c.self.inside.values in
    on_ok c.push.result
    (λ added. ap (stored_blocks heads starts) added
    ∙ value_pushed heads starts values c.self.invariant (subst (λ blocks. 0 < length blocks) (sym c.self.view_is) c.requires.listed) (subst (λ blocks. 0 < length (last_rows blocks)) (sym c.self.view_is) c.requires.row) c.args.v.now.coefficients
    ∙ ap (λ blocks. with_value blocks c.args.v.now.coefficients) c.self.view_is)
    c.push.ensures.added
