-- The copied places, and the zeros that were there.
use Rattle.qd_ring.proofs.Names.{◌++◌, pos, drop-replicate, ap₂}
use Rattle.qd_ring.proofs.cyc_buffer.first_places.Goals as goal

pub returns : goal.returns
returns c = ap₂ (λ x y. x ++ y) c.copy_from_slice.ensures.after (drop-replicate c.args.phi 42 (pos 0))
