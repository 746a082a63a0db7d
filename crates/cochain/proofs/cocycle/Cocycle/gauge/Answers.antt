use Rattle.cochain.proofs.Names.{◌≡◌, None, sym, ◌∙◌, gauge_fault}
use Rattle.cochain.proofs.Gauged.{gauged_is_cocycle}
use Rattle.cochain.proofs.cocycle.Cocycle.gauge.Goals as goal

pub invariant_of-result : goal.invariant_of-result
invariant_of-result c =
    let none : gauge_fault c.self.inside.cochain c.as_slice.result.now ≡ None = sym c.gauge_fault.ensures.first ∙ c.in-None.is in
    rw (c.in_ok-cochain-in-None.ensures.gauged, c.as_slice-in-None.ensures.numbers)
    (gauged_is_cocycle _ _ c.self.invariant (rw c.as_slice.ensures.numbers at none))
