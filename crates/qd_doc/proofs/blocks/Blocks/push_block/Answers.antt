use Rattle.qd_doc.proofs.Names.{AreBlocks, [], ap, arith, block, length, stored_blocks, subst, sym, ◌++◌, ◌∙◌, ◌∷◌, ◌≡◌}
use Rattle.qd_doc.proofs.BlockLists.{block_pushed, block_still}
use Rattle.qd_doc.proofs.blocks.Blocks.push_block.Goals as goal

pub invariant_of-self-2 : goal.invariant_of-self-2
invariant_of-self-2 c =
    let heads = c.self.inside.heads.items in
    let starts = c.self.inside.rows.items in
    let start : c.in_ok-start.start ≡ length starts = omega arith in
    let added : c.push.new.self.items ≡ heads ++ (record { representative = c.args.representative; start = length starts }) ∷ [] =
    c.in_ok-push.ensures.items ∙ ap (λ n. heads ++ (record { representative = c.args.representative; start = n }) ∷ []) start in
    subst (λ hs. AreBlocks hs starts c.self.inside.values) (sym added) (block_still heads starts c.self.inside.values c.self.invariant c.args.representative (omega arith))

pub returns-clause-added : goal.returns-clause-added
returns-clause-added c =
    let heads = c.self.inside.heads.items in
    let starts = c.self.inside.rows.items in
    let start : c.in_ok-start.start ≡ length starts = omega arith in
    let added : c.push.new.self.items ≡ heads ++ (record { representative = c.args.representative; start = length starts }) ∷ [] =
    c.in_ok-push.ensures.items ∙ ap (λ n. heads ++ (record { representative = c.args.representative; start = n }) ∷ []) start in
    ap (λ hs. stored_blocks hs starts c.self.inside.values) added
    ∙ block_pushed heads starts c.self.inside.values c.self.invariant c.args.representative
    ∙ ap (λ blocks. blocks ++ block c.args.representative [] ∷ []) c.self.view_is
