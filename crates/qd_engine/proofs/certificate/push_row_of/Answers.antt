use Rattle.qd_engine.proofs.Names.{◌≡◌, ◌∷◌, [], ◌++◌, ap, sym, subst, ◌∙◌, array_of, value_at, last_rows, with_last_rows, with_value, IsValueOf}
use Rattle.qd_ring.proofs.CycSums.{array-of_value}
use Rattle.qd_engine.proofs.Certificates.{front_of_row, front_more, all_more, last_of_with, value_put}
use Rattle.qd_engine.proofs.certificate.push_row_of.Goals as goal

pub loop-p-preserved : goal.loop-p-preserved
loop-p-preserved g c =
    let k = g.row.K in
    let s = c.args.simples.now in
    let i = c.args.i in
    let old = c.args.blocks.now in
    let row = front_of_row k s i c.loop-p.p in
    let u = c.value.result in
    let v = c.to_plain.result.coefficients in
    let is : v ≡ array_of (value_at k s i c.loop-p.p) =
    c.to_plain.ensures ∙ array-of_value k u.conductor u.coefficients u.array ∙ ap array_of c.value.ensures.value in
    let more = front_more k s i c.loop-p.p v is in
    record {
      added =
          c.in_ok-push_value.ensures.added
          ∙ ap (λ b. with_value b v) c.loop-p.invariant.added
          ∙ value_put old c.requires.begun (last_rows old) row v
          ∙ ap (λ r. with_last_rows old (last_rows old ++ r ∷ [])) more;
      values = all_more (IsValueOf k) row _ v more c.loop-p.invariant.values (subst (IsValueOf k) (sym c.to_plain.ensures) (u.array, u.small));
    }
