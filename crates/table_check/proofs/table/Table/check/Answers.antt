use Rattle.table_check.proofs.Names.{◌≡◌, ap, ◌∙◌, sym, subst, None, Err, Checks, row_miss, table_miss, RowsOver, IsShaped, characters_of}
use Rattle.table_check.proofs.Checked.{row_refused, algebra_refused, none_refused_of}
use Rattle.table_check.proofs.Good.{nothing_missed}
use Rattle.table_check.proofs.table.Table.check.Goals as goal

pub returns-in-Some-clause-checks : goal.returns-in-Some-clause-checks
returns-in-Some-clause-checks g c =
    let same : c.new-candidate.result ≡ record { over = c.args.twist.now; rows = c.args.rows } =
    c.new-candidate.ensures ∙ ap (λ over. record { over = over; rows = c.args.rows }) c.in_ok-copy.ensures.same in
    subst (λ (t : RowsOver). Checks g.row.K t.over t.rows (Err c.in-Some.refusal)) same
    (row_refused g.row.K c.new-candidate.result.over c.new-candidate.result.rows c.in-Some.refusal c.in-Some.ensures.finds)

pub invariant_of-result : goal.invariant_of-result
invariant_of-result g c =
    let same : c.into_candidate.result ≡ record { over = c.args.twist.now; rows = c.args.rows } =
    c.into_candidate.ensures.candidate ∙ c.in_ok-conjugated.ensures.same ∙ c.new-candidate.ensures ∙ ap (λ over. record { over = over; rows = c.args.rows }) c.in_ok-copy.ensures.same in (
      subst (IsShaped g.row.K) (sym same) c.requires.shaped,
      none_refused_of g.row.K c.into_candidate.result c.in_ok-conjugated.conjugated c.into_candidate.ensures.candidate
          (subst (λ (t : RowsOver). row_miss t.over (characters_of g.row.K t.rows) ≡ None) (sym c.in_ok-conjugated.ensures.same) c.in_default.ensures.finds) c.in-None.ensures.finds,
    )

pub returns-in-Some-algebra_refusal-clause-checks : goal.returns-in-Some-algebra_refusal-clause-checks
returns-in-Some-algebra_refusal-clause-checks g c =
    let kept : c.in_ok-conjugated.conjugated ≡ c.new-candidate.result = c.in_ok-conjugated.ensures.same in
    let same : c.new-candidate.result ≡ record { over = c.args.twist.now; rows = c.args.rows } =
    c.new-candidate.ensures ∙ ap (λ over. record { over = over; rows = c.args.rows }) c.in_ok-copy.ensures.same in
    subst (λ (t : RowsOver). Checks g.row.K t.over t.rows (Err c.in-Some-algebra_refusal.refusal)) (kept ∙ same)
    (algebra_refused g.row.K c.in_ok-conjugated.conjugated.over c.in_ok-conjugated.conjugated.rows c.in-Some-algebra_refusal.refusal
    (subst (λ (t : RowsOver). row_miss t.over (characters_of g.row.K t.rows) ≡ None) (sym kept) c.in_default.ensures.finds) c.in-Some-algebra_refusal.ensures.finds)

pub returns-in-None-clause-checks : goal.returns-in-None-clause-checks
returns-in-None-clause-checks g c =
    let same : c.into_candidate.result ≡ record { over = c.args.twist.now; rows = c.args.rows } =
    c.into_candidate.ensures.candidate ∙ c.in_ok-conjugated.ensures.same ∙ c.new-candidate.ensures ∙ ap (λ over. record { over = over; rows = c.args.rows }) c.in_ok-copy.ensures.same in
    let none = none_refused_of g.row.K c.into_candidate.result c.in_ok-conjugated.conjugated c.into_candidate.ensures.candidate
    (subst (λ (t : RowsOver). row_miss t.over (characters_of g.row.K t.rows) ≡ None) (sym c.in_ok-conjugated.ensures.same) c.in_default.ensures.finds) c.in-None.ensures.finds in
    (subst (λ (t : RowsOver). table_miss t.over (characters_of g.row.K t.rows) ≡ None) same none, same)

pub returns-in-None-clause-good : goal.returns-in-None-clause-good
returns-in-None-clause-good g c =
    let none = none_refused_of g.row.K c.into_candidate.result c.in_ok-conjugated.conjugated c.into_candidate.ensures.candidate
    (subst (λ (t : RowsOver). row_miss t.over (characters_of g.row.K t.rows) ≡ None) (sym c.in_ok-conjugated.ensures.same) c.in_default.ensures.finds) c.in-None.ensures.finds in
    nothing_missed c.into_candidate.result.over (characters_of g.row.K c.into_candidate.result.rows) none
