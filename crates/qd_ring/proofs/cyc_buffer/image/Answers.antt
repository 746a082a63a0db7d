-- The image of the first phi(K) places.
use Rattle.qd_ring.proofs.Names.{length, take, ap, ◌∙◌, arith, at_power, cyclotomic, value_product, cyclotomic_value, root, reduction_length}
use Rattle.qd_ring.proofs.SpreadLaws.{total-take}
use Rattle.qd_ring.proofs.ProductLaws.{image-front}
use Rattle.qd_ring.proofs.cyc_buffer.image.Goals as goal

pub reduced_image-requires-clause-room : goal.reduced_image-requires-clause-room
reduced_image-requires-clause-room c = omega (arith, total-take c.args.a.now (length c.reduction-phi.result.now), c.requires.room)

pub returns-clause-value : goal.returns-clause-value
returns-clause-value c =
    let k = c.args.k in
    let count = ap length c.reduction-phi.ensures ∙ reduction_length k c.requires.conductor in
    c.reduced_image.ensures.value
    ∙ ap (value_product (cyclotomic k) (root k c.args.start))
    (ap (λ n. cyclotomic_value k (at_power c.args.stride (take n c.args.a.now))) count ∙ image-front k c.requires.conductor c.args.stride c.args.a.now c.requires.array)
