use Rattle.modular_st.proofs.Names.{◌+◌, ◌-◌, ◌<◌, length, ◌++◌, ◌∷◌, [], arith, ap, ◌∙◌, row_at, values_of_rows, s_front}
use Rattle.modular_st.proofs.RowsMade.{rows_count, last_width, value_more, front_more, front_width}
use Rattle.modular_st.proofs.matrix.append_row.Goals as goal

pub push_value-requires : goal.push_value-requires
push_value-requires g c =
    let front = values_of_rows g.row.K c.args.rows.now in
    let last = s_front g.row.K c.args.simples.now c.args.i c.loop-j.j in
    let count = rows_count g.row.K c.loop-j.rows front last c.loop-j.invariant in
    let width = last_width g.row.K c.loop-j.rows front last c.loop-j.invariant in
    let made = front_width g.row.K c.args.simples.now c.args.i c.loop-j.j in
    let few : length (row_at c.loop-j.rows (length c.loop-j.rows - 1)) + 1 < 4294967296 =
    omega (arith, made, c.loop-j-test.true, c.count-j-end.ensures.few, c.count-j-end.ensures.count, width) in
    (omega arith, (omega arith, (omega (arith, count), few)))

pub loop-j-preserved : goal.loop-j-preserved
loop-j-preserved g c =
    let front = values_of_rows g.row.K c.args.rows.now in
    let last = s_front g.row.K c.args.simples.now c.args.i c.loop-j.j in
    ap (values_of_rows g.row.K) c.in_ok-push_value.ensures.added
    ∙ value_more g.row.K c.loop-j.rows front last c.loop-j.invariant c.in_ok-value.value.coefficients
    ∙ ap (λ row. front ++ row ∷ []) (front_more g.row.K c.args.simples.now c.args.i c.loop-j.j _ c.in_ok-value.ensures.entry)
