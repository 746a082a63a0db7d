use Rattle.qd_doc.proofs.Names.{AreBlocks, [], ap, arith, length, stored_blocks, subst, sym, with_row, ◌++◌, ◌<◌, ◌∙◌, ◌∷◌, ◌≡◌}
use Rattle.qd_doc.proofs.BlockLists.{row_pushed, row_still}
use Rattle.qd_doc.proofs.blocks.Blocks.push_row.Goals as goal

pub invariant_of-self-2 : goal.invariant_of-self-2
invariant_of-self-2 c =
    let heads = c.self.inside.heads.items in
    let starts = c.self.inside.rows.items in
    let values = c.self.inside.values in
    let added : c.push.new.self.items ≡ starts ++ length values ∷ [] = c.in_ok-push.ensures.items ∙ ap (λ n. starts ++ n ∷ []) c.len-2.ensures.count in
    subst (λ ss. AreBlocks heads ss values) (sym added) (row_still heads starts values c.self.invariant (omega arith))

pub returns-clause-added : goal.returns-clause-added
returns-clause-added c =
    let heads = c.self.inside.heads.items in
    let starts = c.self.inside.rows.items in
    let values = c.self.inside.values in
    let added : c.push.new.self.items ≡ starts ++ length values ∷ [] = c.in_ok-push.ensures.items ∙ ap (λ n. starts ++ n ∷ []) c.len-2.ensures.count in
    ap (λ ss. stored_blocks heads ss values) added
    ∙ row_pushed heads starts values c.self.invariant (subst (λ blocks. 0 < length blocks) (sym c.self.view_is) c.requires.listed)
    ∙ ap with_row c.self.view_is
