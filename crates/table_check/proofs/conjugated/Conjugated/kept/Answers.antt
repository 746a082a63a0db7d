use Rattle.table_check.proofs.Names.{◌≡◌, ◌∙◌, ap, arith, length, cyclotomic_value, conjugate, size, RowsOver, characters_of}
use Rattle.table_check.proofs.Conjugates.{mapped_length, mapped_at, conjugate_kept, sparse_kept, kept_rows, kept_row}
use Rattle.table_check.proofs.conjugated.Conjugated.kept.Goals as goal

pub index-requires : goal.index-requires
index-requires g c =
    let t = c.self.inside in
    let rows = ap (λ (t : RowsOver). length t.rows) c.self.view_is in
    omega (arith, rows, kept_rows g.row.K t.candidate t.conjugates.items c.self.invariant.1, t.conjugates.ok.0)

pub index-requires-2 : goal.index-requires-2
index-requires-2 g c =
    let t = c.self.inside in
    let rows = ap (λ (t : RowsOver). length t.rows) c.self.view_is in
    let places = ap (λ (t : RowsOver). size t.over) c.self.view_is in
    let row = kept_row g.row.K t.candidate t.conjugates.items c.self.invariant.1 c.args.i c.index.result.now (omega (arith, rows)) c.index.ensures in
    omega (arith, places, mapped_length _ _ _ _ row, c.index.result.now.ok.0)

pub returns : goal.returns
returns g c =
    let t = c.self.inside in
    let table = c.args.self.now in
    let rows = ap (λ (t : RowsOver). length t.rows) c.self.view_is in
    let places = ap (λ (t : RowsOver). size t.over) c.self.view_is in
    let row = kept_row g.row.K t.candidate t.conjugates.items c.self.invariant.1 c.args.i c.index.result.now (omega (arith, rows)) c.index.ensures in
    let kept = c.index-2.result.now in
    let value : cyclotomic_value g.row.K kept.value.coefficients ≡ conjugate g.row.K ((characters_of g.row.K table.rows).chi c.args.i c.args.x) =
    mapped_at _ _ _ _ row c.args.x kept (omega (arith, places)) c.index-2.ensures
    ∙ ap (λ (t : RowsOver). conjugate g.row.K ((characters_of g.row.K t.rows).chi c.args.i c.args.x)) c.self.view_is in
    record { value = value; forms = conjugate_kept g.row.K table c.args.i c.args.x kept.value value; terms = sparse_kept g.row.K table c.args.i c.args.x kept value }
