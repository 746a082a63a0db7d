-- One number, then zeros.
use Rattle.qd_ring.proofs.Names.{◌∷◌, ap, ◌∙◌, cyclotomic_value, to_z-of_z, zeros, is_array, is_small, w128}
use Rattle.qd_ring.proofs.CycSums.{constant_array, constant_small, constant_value}
use Rattle.qd_ring.proofs.cyc.Cyc.whole.Goals as goal

pub invariant_of-result : goal.invariant_of-result
invariant_of-result g c =
    let plain = to_z-of_z w128 c.args.v c.ranges.v in
    record {
      conductor = c.requires.conductor;
      array = ap (λ z. is_array g.row.K (z ∷ zeros 41)) plain ∙ constant_array g.row.K c.requires.conductor c.args.v;
      small = ap (λ z. is_small (z ∷ zeros 41)) plain ∙ constant_small g.row.K c.requires.conductor c.args.v c.requires.fits;
    }

pub returns : goal.returns
returns g c =
    ap (λ z. cyclotomic_value g.row.K (z ∷ zeros 41)) (to_z-of_z w128 c.args.v c.ranges.v)
    ∙ constant_value g.row.K c.requires.conductor c.args.v
