-- The remainder of the buffer, which is within the bound.
use Rattle.qd_ring.proofs.Names.{ap, ◌∙◌, ◌<◌, ◌^◌, subst, sym, arith, take, cyclotomic_value, conductor_bounds}
use Rattle.qd_ring.proofs.CycLaws.{small_value}
use Rattle.qd_ring.proofs.FoldingLaws.{folded_all, buffer_front, buffer_fits}
use Rattle.qd_ring.proofs.folded.Folded.finish.Goals as goal

pub slice_bounds-coefficients-end : goal.slice_bounds-coefficients-end
slice_bounds-coefficients-end g c = omega (arith, c.self.invariant.size, (conductor_bounds g.row.K c.self.invariant.conductor).0)

pub slice_bounds-reduced-end : goal.slice_bounds-reduced-end
slice_bounds-reduced-end g c = sym (buffer_front g.row.K c.self.invariant.conductor c.self.inside.coefficients c.self.invariant.size)

pub reduced-requires-clause-size : goal.reduced-requires-clause-size
reduced-requires-clause-size g c = buffer_front g.row.K c.self.invariant.conductor c.self.inside.coefficients c.self.invariant.size

pub invariant_of-result : goal.invariant_of-result
invariant_of-result g c = record {
  conductor = c.self.invariant.conductor;
  array = c.reduced.ensures.array;
  small = small_value g.row.K c.self.invariant.conductor c.reduced.result c.reduced.ensures.array _ c.reduced.ensures.value
      (buffer_fits g.row.K c.self.invariant.conductor _ (omega (arith, c.self.invariant.within, c.self.invariant.small)));
}

pub returns : goal.returns
returns g c =
    let k = g.row.K in
    let value = c.reduced.ensures.value ∙ ap (λ f. cyclotomic_value k (take k f.coefficients)) c.self.view_is in
    record {
      value = value;
      listed = λ term n folded.
          folded_all k term n (cyclotomic_value k (take k c.args.self.now.coefficients)) c.args.self.now.bound _
          (subst (λ f. f.bound < 2 ^ 108) c.self.view_is c.self.invariant.small) folded value;
    }
