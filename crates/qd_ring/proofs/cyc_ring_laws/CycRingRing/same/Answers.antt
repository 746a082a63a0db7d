-- Arrays that stand for one value are one.
use Rattle.qd_ring.proofs.Names.{◌≡◌, ap, sym, ◌∙◌, cyclotomic_value}
use Rattle.std.specs.Cmp.Rules.{signed_items}
use Rattle.qd_ring.proofs.CycSums.{arrays_same}
use Rattle.qd_ring.proofs.cyc_ring_laws.CycRingRing.same.Goals as goal

pub returns : goal.returns
returns g c =
    let k = g.row.K in
    let xs = c.args.a.now.coefficients in
    let ys = c.args.b.now.coefficients in
    let decides = signed_items xs ys in (
      λ same. ap (cyclotomic_value k) (decides.0 (sym c.eq.ensures ∙ same)),
      λ equal. let arrays : xs ≡ ys = arrays_same k c.args.self.now.conductor xs ys c.args.a.now.array c.args.b.now.array equal in c.eq.ensures ∙ decides.1 arrays,
    )
