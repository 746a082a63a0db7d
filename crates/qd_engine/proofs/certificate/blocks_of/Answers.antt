use Rattle.qd_engine.proofs.Names.{◌≡◌, ◌∷◌, [], ◌++◌, All, length, ap, sym, le_antisymm, ◌∙◌, arith, map-range_with_len_more, Table, representatives, Block, IsValueOf, certified_block}
use Rattle.qd_engine.proofs.Certificates.{all_more, all_classes}
use Rattle.qd_engine.proofs.certificate.blocks_of.Goals as goal

pub push_class-requires : goal.push_class-requires
push_class-requires g c =
    let count : c.count-c-end.result ≡ length (representatives c.args.simples.now.cocycle.group) =
    c.count-c-end.ensures.count ∙ ap (λ (t : Table). length (representatives t)) c.classes.ensures.classes in
    let below = c.loop-c-test.true in
    let most = c.count-c-end.ensures.at_most_order in
    let small = c.count-c-end.ensures.small in
    (omega arith, omega arith)

pub loop-c-preserved : goal.loop-c-preserved
loop-c-preserved g c =
    let s = c.args.simples.now in
    let block = certified_block g.row.K s c.loop-c.c in
    let pushed = c.in_ok-push_class.ensures in
    record {
      added = pushed.added ∙ ap (λ b. b ++ block ∷ []) c.loop-c.invariant.added ∙ sym (map-range_with_len_more (certified_block g.row.K s) 0 c.loop-c.c c.loop-c.c (omega arith));
      values = all_more (λ (b : Block). All (λ row. All (IsValueOf g.row.K) row) b.rows) c.loop-c.blocks _ block (sym pushed.added) c.loop-c.invariant.values pushed.values;
    }

pub returns-clause-blocks : goal.returns-clause-blocks
returns-clause-blocks g c =
    let count : c.count-c-end.result ≡ length (representatives c.args.simples.now.cocycle.group) =
    c.count-c-end.ensures.count ∙ ap (λ (t : Table). length (representatives t)) c.classes.ensures.classes in
    c.loop-c.invariant.added ∙ all_classes g.row.K c.args.simples.now c.loop-c.c (le_antisymm c.loop-c.auto.c-end c.loop-c-test.false ∙ count)
