-- Each term adds its product.
use Rattle.qd_ring.proofs.Names.{◌*◌, ◌∙◌, SFits, ap, ap₂, arith, conductor_bounds, cyclotomic, cyclotomic_value, get_or, mul-le-mul_right, nat_abs, root, rules, sym, to_z-of_z, total_of_terms, turned_product, value_multiple, value_of_terms, value_product, value_sum, w128}
use Rattle.qd_ring.proofs.SparseLaws.{no_term, nothing_added, term_added, product_sums, product_turned, total_more, total_within}
use Rattle.qd_ring.proofs.sparse_buffer.add_product.Goals as goal

pub loop-term-init : goal.loop-term-init
loop-term-init c =
    let w = value_of_terms c.args.k c.args.b.now in
    record {
      value = sym (nothing_added c.args.k (λ u. turned_product c.args.k c.args.start u w) (product_sums c.args.k c.args.start w) _);
      total = omega arith;
    }

pub turned-requires-clause-small : goal.turned-requires-clause-small
turned-requires-clause-small c = (conductor_bounds c.args.k c.requires.conductor).0

pub add_terms-requires-clause-room : goal.add_terms-requires-clause-room
add_terms-requires-clause-room c =
    let a = (get_or c.args.a.now c.loop-term.term-index no_term).coefficient in
    let fits : SFits w128 a = search rules in
    let most = mul-le-mul_right (total_of_terms c.args.b.now) (total_within c.args.a.now c.loop-term.term-index no_term c.loop-term-test.true) in
    rw (to_z-of_z w128 a fits) (omega (arith, c.loop-term.invariant.total, c.requires.room, most))

pub loop-term-preserved : goal.loop-term-preserved
loop-term-preserved c =
    let k = c.args.k in
    let i = c.loop-term.term-index in
    let w = value_of_terms k c.args.b.now in
    let now = cyclotomic_value k c.loop-term.buffer in
    let term = get_or c.args.a.now i no_term in
    let fits : SFits w128 term.coefficient = search rules in
    let read = to_z-of_z w128 term.coefficient fits in
    let more = ap (λ t. t * total_of_terms c.args.b.now) (total_more c.args.a.now i no_term c.loop-term-test.true) in
    record {
      value = term_added k (λ u. turned_product k c.args.start u w) (product_sums k c.args.start w) c.args.a.now i no_term
          c.loop-term-test.true _ _ _ c.loop-term.invariant.value
          (c.add_terms.ensures.value
          ∙ ap₂ (λ z e. value_sum now (value_multiple z (value_product (cyclotomic k) (root k e) w))) read c.turned.ensures.place
          ∙ ap (value_sum now) (product_turned k c.requires.conductor c.args.start term.power term.coefficient w));
      total = omega (arith, c.add_terms.ensures.total, ap (λ z. nat_abs z * total_of_terms c.args.b.now) read, c.loop-term.invariant.total, more);
    }
