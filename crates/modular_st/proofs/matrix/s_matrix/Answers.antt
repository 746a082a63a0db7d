use Rattle.modular_st.specs.ModularMatrices.{entries_of}
use Rattle.modular_st.proofs.MatrixLaws.{matrix_symmetric, matrix_dimensions, matrix_unitary}
use Rattle.modular_st.proofs.Entries.{matrix_rows, matrix_width, matrix_entry}
use Rattle.modular_st.proofs.matrix.s_matrix.Goals as goal

pub returns-clause-rows : goal.returns-clause-rows
returns-clause-rows g c = matrix_rows g.row.K c.args.simples.now c.in_ok-rows.rows c.in_ok-rows.ensures.rows

pub returns-clause-columns : goal.returns-clause-columns
returns-clause-columns g c = matrix_width g.row.K c.args.simples.now c.in_ok-rows.rows c.in_ok-rows.ensures.rows

pub returns-clause-entries : goal.returns-clause-entries
returns-clause-entries g c = matrix_entry g.row.K c.args.simples.now c.in_ok-rows.rows c.in_ok-rows.ensures.rows

pub returns-clause-symmetric : goal.returns-clause-symmetric
returns-clause-symmetric g c =
    matrix_symmetric g.row.K c.args.simples.now c.count-count.ensures.simples (entries_of g.row.K c.in_ok-rows.rows)
    (matrix_entry g.row.K c.args.simples.now c.in_ok-rows.rows c.in_ok-rows.ensures.rows)

pub returns-clause-dimensions : goal.returns-clause-dimensions
returns-clause-dimensions g c =
    matrix_dimensions g.row.K c.args.simples.now c.count-count.ensures.simples (entries_of g.row.K c.in_ok-rows.rows)
    (matrix_entry g.row.K c.args.simples.now c.in_ok-rows.rows c.in_ok-rows.ensures.rows)

pub returns-clause-unitary : goal.returns-clause-unitary
returns-clause-unitary g c =
    matrix_unitary g.row.K c.args.simples.now c.count-count.ensures.simples (entries_of g.row.K c.in_ok-rows.rows)
    (matrix_entry g.row.K c.args.simples.now c.in_ok-rows.rows c.in_ok-rows.ensures.rows)
