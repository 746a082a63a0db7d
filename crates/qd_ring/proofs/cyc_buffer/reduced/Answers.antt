-- The remainder is copied.
use Rattle.qd_ring.proofs.Names.{◌-◌, ◌++◌, ◌≡◌, array_of, cyclotomic_value, is_array, length, take, ap, ◌∙◌, zeros, phi_of, reduction_length}
use Rattle.qd_ring.proofs.ProductLaws.{array_of_remainder, is_array-of, value-array_of}
use Rattle.qd_ring.proofs.cyc_buffer.reduced.Goals as goal

pub returns : goal.returns
returns c =
    let k = c.args.k in
    let entry = c.requires.conductor in
    let count = ap length c.reduction.ensures ∙ reduction_length k entry in
    let is : c.first_places.result ≡ array_of (cyclotomic_value k c.args.buffer.now) =
    c.first_places.ensures
    ∙ ap (λ n. take n c.reduce.new.buffer ++ zeros (42 - n)) count
    ∙ array_of_remainder k entry c.args.buffer.now (take (phi_of k) c.reduce.new.buffer) c.reduce.ensures in
    record { array = ap (is_array k) is ∙ is_array-of k entry _; value = ap (cyclotomic_value k) is ∙ value-array_of k entry _ }
