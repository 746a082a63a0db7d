use Rattle.table_check.proofs.Names.{ap, ◌∙◌, map, arith, false≢true, range_with_len, cyclotomic_value, conjugate, value_fits, size, characters_of, values_of}
use Rattle.table_check.proofs.Conjugates.{conjugate_fits, mapped_more}
use Rattle.table_check.proofs.conjugated.conjugate_row.Goals as goal

pub loop-x-init : goal.loop-x-init
loop-x-init g c = ap (values_of g.row.K) c.new-row.ensures.items

pub unreachable-requires : goal.unreachable-requires
unreachable-requires g c =
    let table = characters_of g.row.K c.args.table.now.rows in
    false≢true (c.in_default.ensures.fits ∙ ap (λ u. value_fits (conjugate g.row.K u)) c.value.ensures.value
    ∙ conjugate_fits c.args.table.now.over table c.args.i c.loop-x.x c.requires.unitary c.requires.i_below
    (omega (arith, c.loop-x-test.true, c.size-places.ensures.size, ap (λ t. size t) c.over.ensures.over)))

pub loop-x-preserved : goal.loop-x-preserved
loop-x-preserved g c =
    let table = characters_of g.row.K c.args.table.now.rows in
    ap (values_of g.row.K) c.in_ok-push.ensures.items
    ∙ mapped_more (λ u. cyclotomic_value g.row.K u.value.coefficients) (λ y. conjugate g.row.K (table.chi c.args.i y)) c.loop-x.x c.loop-x.row.items _ c.loop-x.invariant
    (c.in-Some.ensures.value ∙ ap (conjugate g.row.K) c.value.ensures.value)

pub returns : goal.returns
returns g c = record {
  row = c.loop-x.invariant ∙ ap (λ n. map (λ y. conjugate g.row.K ((characters_of g.row.K c.args.table.now.rows).chi c.args.i y)) (range_with_len 0 n))
      (omega (arith, c.loop-x-test.false, c.loop-x.auto, c.size-places.ensures.size, ap (λ t. size t) c.over.ensures.over));
}
