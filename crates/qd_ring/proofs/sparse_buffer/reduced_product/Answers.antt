-- From an empty buffer the value is what is added.
use Rattle.qd_ring.proofs.Names.{ap, ◌∙◌, cyclotomic, value_product, cyclotomic_ring, root-zero, one_mul, value_of_terms}
use Rattle.qd_ring.proofs.ProductLaws.{added_to_empty}
use Rattle.qd_ring.proofs.sparse_buffer.reduced_product.Goals as goal

pub returns-clause-value : goal.returns-clause-value
returns-clause-value c =
    let k = c.args.k in
    let m = cyclotomic k in
    let added = value_product m (value_of_terms k c.args.a.now) (value_of_terms k c.args.b.now) in
    c.reduced.ensures.value ∙ c.add_product.ensures.value ∙ added_to_empty k c.args.buffer.now c.requires.empty _
    ∙ ap (λ r. value_product m r added) (root-zero m) ∙ one_mul (cyclotomic_ring k) added
