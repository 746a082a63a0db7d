use Rattle.qd_engine.proofs.Names.{◌≡◌, ◌++◌, ℕ, None, subst, sum, Table, tables_cause, simples_over, option_or, row_part_text, parts_text, most_simples, stated_test, simples_test, shape_test, LateReport, Follows, Stated}
use Rattle.qd_engine.proofs.Following.{follow_next}
use Rattle.qd_engine.proofs.RankLaws.{ranks_few, ranks_small}
use Rattle.qd_engine.proofs.row_report.append_stated.Goals as goal

pub few_simples-requires-clause-few : goal.few_simples-requires-clause-few
few_simples-requires-clause-few c = ranks_few c.args.w c.args.list c.requires.list

pub few_simples-requires-clause-small : goal.few_simples-requires-clause-small
few_simples-requires-clause-small c = ranks_small c.args.w c.args.list c.requires.list

pub returns : goal.returns
returns c =
    let s = simples_over c.args.w c.args.given.now.blocks in
    let parts = c.args.report.now.parts in
    let result = c.append_over.result in
    let over = subst
    (λ (k : ℕ). Follows (option_or (tables_cause c.args.w k c.args.given.now.blocks) None) (LateReport Stated k s parts)
    (λ done. c.append_over.new.out.items ≡ c.args.out.now.items ++ parts_text (row_part_text Stated k s) parts) result)
    c.requires.needed.needed c.append_over.ensures.follows in
    let stated = subst (λ (k : ℕ). stated_test c.args.given.now.conductor k ≡ None) c.requires.needed.needed c.in_ok-stated_is.ensures.tested.0 in
    let few = subst (λ ranks. simples_test (sum ranks) (most_simples parts) ≡ None) c.requires.list.ranks
    (subst (λ most. simples_test (sum c.args.list.ranks) most ≡ None) c.most_simples.ensures.most c.in_ok-few_simples.ensures.tested.0) in
    let shape = subst (λ (t : Table). shape_test t c.args.given.now.blocks ≡ None) c.requires.list.classes c.in_ok-matching.ensures.tested.0 in
    record { follows = follow_next _ _ result _ _ stated (follow_next _ _ result _ _ few (follow_next _ _ result _ _ shape over)) }
