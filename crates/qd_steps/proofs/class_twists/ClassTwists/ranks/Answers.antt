use Rattle.qd_steps.proofs.Names.{◌<◌, ◌∷◌, [], ◌++◌, length, map, take, le_antisymm, sym, ap, subst, ◌∙◌, arith, length-append, rank, no_table, take-length, map_more}
use Rattle.std.proofs.Common.{ap₂}
use Rattle.qd_steps.proofs.class_twists.ClassTwists.ranks.Goals as goal

pub loop-c-preserved : goal.loop-c-preserved
loop-c-preserved c =
    let pushed = c.in_ok-push.ensures.added in
    let below = subst (λ n. c.loop-c.c < n) c.count-c-end.ensures.count c.loop-c-test.true in
    record {
      count = let before = c.loop-c.invariant.count in omega (arith, ap length pushed, length-append c.loop-c.ranks (c.centre_rank.result ∷ []), before);
      kept = pushed ∙ ap₂ (λ front here. front ++ here ∷ []) c.loop-c.invariant.kept (c.centre_rank.ensures.rank ∙ ap rank c.at.ensures.twist)
          ∙ sym (map_more rank c.args.self.now c.loop-c.c no_table.over below);
    }

pub returns : goal.returns
returns c =
    let number = le_antisymm c.loop-c.auto.c-end c.loop-c-test.false ∙ c.count-c-end.ensures.count in
    record { ranks = c.loop-c.invariant.kept ∙ ap (map rank) (ap (λ n. take n c.args.self.now) number ∙ take-length c.args.self.now) }
