use Rattle.qd_engine.proofs.Names.{◌≡◌, ◌+◌, ◌<◌, ◌∷◌, [], ◌++◌, length, map, take, All, ap, sym, subst, ◌∙◌, arith, count, last_rows, with_last_rows, IsValueOf, row_of}
use Rattle.qd_engine.proofs.Certificates.{last_of_with, with_last_again, with_last_same, rows_kept, member_more, all_more}
use Rattle.qd_engine.proofs.certificate.push_rows_of.Goals as goal

pub loop-place-init : goal.loop-place-init
loop-place-init g c = record { added = sym (rows_kept c.args.blocks.now c.requires.begun [] c.requires.empty); values = λ k d below. absurd (omega arith) }

pub push_row_of-requires : goal.push_row_of-requires
push_row_of-requires g c =
    let f = row_of g.row.K c.args.simples.now in
    let old = c.args.blocks.now in
    let members = c.args.members.now in
    let place = c.loop-place.place in
    let below : place < length members = subst (λ n. place < n) c.len-place-end.ensures.count c.loop-place-test.true in
    let rows = map f (take place members) in
    let same : length c.loop-place.blocks ≡ length old = ap length c.loop-place.invariant.added ∙ with_last_same old rows in
    let begun = c.requires.begun in
    (omega arith, (subst (λ i. i < count g.row.K c.args.simples.now) (sym c.at.ensures.number) (c.requires.members place 0 below), omega arith))

pub loop-place-preserved : goal.loop-place-preserved
loop-place-preserved g c =
    let f = row_of g.row.K c.args.simples.now in
    let old = c.args.blocks.now in
    let members = c.args.members.now in
    let place = c.loop-place.place in
    let rows = map f (take place members) in
    let below : place < length members = subst (λ n. place < n) c.len-place-end.ensures.count c.loop-place-test.true in
    let before = c.loop-place.invariant in
    let more : rows ++ f c.at.result ∷ [] ≡ map f (take (place + 1) members) =
    ap (λ i. rows ++ f i ∷ []) c.at.ensures.number ∙ member_more f members place 0 below in
    record {
      added =
          c.in_ok-push_row_of.ensures.added
          ∙ ap (λ b. with_last_rows b (last_rows b ++ f c.at.result ∷ [])) before.added
          ∙ ap (λ r. with_last_rows (with_last_rows old rows) (r ++ f c.at.result ∷ [])) (last_of_with old c.requires.begun rows)
          ∙ with_last_again old c.requires.begun rows (rows ++ f c.at.result ∷ [])
          ∙ ap (with_last_rows old) more;
      values = all_more (λ row. All (IsValueOf g.row.K) row) rows _ (f c.at.result) more before.values c.in_ok-push_row_of.ensures.values;
    }
