use Rattle.prime_field.proofs.Names.{◌≡◌, ◌<◌, power, field, field_residue}
use Rattle.prime_field.proofs.mod_ring.ModRing.root_power.Given as goal

abbrev pub invariant-loop-step : goal.invariant-loop-step
invariant-loop-step l =
    (field_residue l.self.q l.self.listed l.power ≡ power (field l.self.q l.self.listed) (field_residue l.self.q l.self.listed l.self.root) l._step)
    × (l.power < l.self.q)
