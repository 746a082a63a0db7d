use Rattle.modular_st.proofs.Names.{◌+◌, ◌<◌, ◌++◌, ◌∷◌, [], arith, ap, sym, ◌∙◌, length, zero-add, length-map, map-range_with_len_more, length-map-range_with_len, count, row_values, s_front}
use Rattle.modular_st.proofs.Entries.{rows_done}
use Rattle.modular_st.proofs.matrix.numerator_rows.Goals as goal

pub append_row-requires : goal.append_row-requires
append_row-requires g c =
    let s = c.args.simples.now in
    let rows = sym (length-map c.loop-i.rows (row_values g.row.K)) ∙ ap length c.loop-i.invariant
    ∙ length-map-range_with_len (λ i. s_front g.row.K s i (count g.row.K s)) 0 c.loop-i.i in
    let inside : c.loop-i.i < count g.row.K s = omega (arith, c.loop-i-test.true, c.count-count.ensures.count) in
    let few : length c.loop-i.rows + 1 < 4294967296 = omega (arith, rows, c.loop-i-test.true, c.count-count.ensures.count, c.count-count.ensures.few) in
    (omega arith, (omega arith, (omega arith, (c.requires.kept, (inside, few)))))

pub loop-i-preserved : goal.loop-i-preserved
loop-i-preserved g c =
    let s = c.args.simples.now in
    let row = s_front g.row.K s c.loop-i.i (count g.row.K s) in
    c.in_ok-append_row.ensures.added ∙ ap (λ rows. rows ++ row ∷ []) c.loop-i.invariant
    ∙ sym (map-range_with_len_more (λ i. s_front g.row.K s i (count g.row.K s)) 0 c.loop-i.i c.loop-i.i (zero-add c.loop-i.i))

pub returns-clause-rows : goal.returns-clause-rows
returns-clause-rows g c =
    rows_done g.row.K c.args.simples.now c.loop-i.rows c.loop-i.i c.loop-i.invariant
    (omega (arith, c.loop-i-test.false, c.loop-i.auto, c.count-count.ensures.count))
