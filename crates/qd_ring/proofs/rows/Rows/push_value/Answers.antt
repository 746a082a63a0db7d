use Rattle.qd_ring.proofs.Names.{◌-◌, ◌∙◌, ap, sym, subst, ◌+◌, ◌<◌, ◌^◌, length, map, arith, length-set, row_at, with_value}
use Rattle.qd_ring.proofs.RowSteps.{view_kept, view_pushed, widths_pushed, on_error, last_row}
use Rattle.qd_ring.proofs.rows.Rows.push_value.Goals as goal

pub returns-in_err-push-clause-unchanged : goal.returns-in_err-push-clause-unchanged
returns-in_err-push-clause-unchanged g c =
    on_error c.from_residual.result
    (view_kept (λ row. row.items) (λ value. value.coefficients) c.self.inside.rows.items (c.len-last.result - 1) c.index_mut.result.now c.push.new.self
    (last_row (λ row. map (λ value. value.coefficients) row.items) c.self.inside.rows.items c.args.self.now c.len-last.result _ c.self.view_is c.requires.row c.len-last.ensures c.self.inside.rows.ok.0).0 c.index_mut.ensures.value c.in_err-push.ensures.items ∙ c.self.view_is)

pub invariant_of-self-2 : goal.invariant_of-self-2
invariant_of-self-2 g c = (
  c.self.invariant.0,
  omega (arith, c.self.invariant.1, length-set c.self.inside.rows.items (c.len-last.result - 1) c.push.new.self),
  widths_pushed (λ row. row.items) (λ value. value.coefficients) c.self.inside.rows.items (c.len-last.result - 1) c.index_mut.result.now c.push.new.self
      (last_row (λ row. map (λ value. value.coefficients) row.items) c.self.inside.rows.items c.args.self.now c.len-last.result _ c.self.view_is c.requires.row c.len-last.ensures c.self.inside.rows.ok.0).0 c.index_mut.ensures.value c.args.v c.in_ok-push.ensures.items (last_row (λ row. map (λ value. value.coefficients) row.items) c.self.inside.rows.items c.args.self.now c.len-last.result _ c.self.view_is c.requires.row c.len-last.ensures c.self.inside.rows.ok.0).1 (subst (λ rows. length (row_at rows (length rows - 1)) + 1 < 2 ^ 32) (sym c.self.view_is) c.requires.room) c.self.invariant.2,
)

pub returns-clause-added : goal.returns-clause-added
returns-clause-added g c =
    view_pushed (λ row. row.items) (λ value. value.coefficients) c.self.inside.rows.items (c.len-last.result - 1) c.index_mut.result.now c.push.new.self
    (last_row (λ row. map (λ value. value.coefficients) row.items) c.self.inside.rows.items c.args.self.now c.len-last.result _ c.self.view_is c.requires.row c.len-last.ensures c.self.inside.rows.ok.0).0 c.index_mut.ensures.value c.args.v c.in_ok-push.ensures.items (last_row (λ row. map (λ value. value.coefficients) row.items) c.self.inside.rows.items c.args.self.now c.len-last.result _ c.self.view_is c.requires.row c.len-last.ensures c.self.inside.rows.ok.0).1
    ∙ ap (λ rows. with_value rows c.args.v.coefficients) c.self.view_is
