use Rattle.qd_engine.proofs.Names.{◌≡◌, ◌<◌, [], ◌∷◌, ◌++◌, length, map, All, length-append, ap, sym, subst, ◌∙◌, arith, Table, representative_at, count, block, last_rows, with_last_rows, IsValueOf, row_of, certified_block}
use Rattle.qd_engine.proofs.Certificates.{last_of_front, with_last_front, members_below, on_ok}
use Rattle.qd_engine.proofs.certificate.push_class.Goals as goal

pub push_rows_of-requires : goal.push_rows_of-requires
push_rows_of-requires g c =
    let front = c.args.blocks.now in
    let number = c.representative.result in
    let added = c.in_ok-push_block.ensures.added in
    let begun : 0 < length c.push_block.new.self = rw added (omega (arith, length-append front (block number [] ∷ []))) in
    let empty : last_rows c.push_block.new.self ≡ [] = ap last_rows added ∙ last_of_front front number [] in
    let s = c.args.simples.now in
    let members = subst (All (λ i. i < count g.row.K s)) (sym c.in_ok-members.ensures.simples) (members_below g.row.K s c.args.c) in
    (omega arith, (members, (begun, empty)))

pub returns-clause-added : goal.returns-clause-added
returns-clause-added g c =
    let front = c.args.blocks.now in
    let s = c.args.simples.now in
    let f = row_of g.row.K s in
    let number : c.representative.result ≡ representative_at s.cocycle.group c.args.c =
    c.representative.ensures.representative ∙ ap (λ (t : Table). representative_at t c.args.c) c.classes.ensures.classes in
    on_ok c.push_rows_of.result
    (λ rows. rows
    ∙ ap (λ b. with_last_rows b (map f c.in_ok-members.members)) c.in_ok-push_block.ensures.added
    ∙ with_last_front front c.representative.result [] (map f c.in_ok-members.members)
    ∙ ap (λ members. front ++ block c.representative.result (map f members) ∷ []) c.in_ok-members.ensures.simples
    ∙ ap (λ n. front ++ block n (certified_block g.row.K s c.args.c).rows ∷ []) number)
    c.push_rows_of.ensures.added

pub returns-clause-values : goal.returns-clause-values
returns-clause-values g c =
    let s = c.args.simples.now in
    let f = row_of g.row.K s in
    on_ok c.push_rows_of.result
    (subst (All (λ row. All (IsValueOf g.row.K) row)) (ap (map f) c.in_ok-members.ensures.simples))
    c.push_rows_of.ensures.values
