-- Each term adds its multiple.
use Rattle.qd_ring.proofs.Names.{◌+◌, ◌*◌, ◌^◌, ◌<◌, total_of, total_of_terms, ap, arith, cyclotomic, mul-le-mul_right, nat_abs, of_z, root, sym, to_z, to_z-of_z, value_multiple, value_product, w128}
use Rattle.qd_ring.proofs.SparseLaws.{no_term, nothing_added, term_added, scaled_sums, total_more, total_within}
use Rattle.qd_ring.proofs.sparse_buffer.add_terms.Goals as goal

pub loop-term-init : goal.loop-term-init
loop-term-init c =
    let k = c.args.k in
    let f = to_z w128 (of_z w128 c.args.factor) in
    record {
      value = sym (nothing_added k (λ u. value_multiple f (value_product (cyclotomic k) (root k c.args.start) u)) (scaled_sums k f _) _);
      total = omega arith;
    }

pub add_term-requires-clause-room : goal.add_term-requires-clause-room
add_term-requires-clause-room c =
    let f = to_z w128 (of_z w128 c.args.factor) in
    let most = mul-le-mul_right (nat_abs f) (total_within c.args.terms.now c.loop-term.term-index no_term c.loop-term-test.true) in
    let room : total_of c.args.buffer.now + nat_abs f * total_of_terms c.args.terms.now < 2 ^ 126 =
    rw (to_z-of_z w128 c.args.factor c.ranges.factor) c.requires.room in
    omega (arith, c.loop-term.invariant.total, room, most)

pub loop-term-preserved : goal.loop-term-preserved
loop-term-preserved c =
    let k = c.args.k in
    let f = to_z w128 (of_z w128 c.args.factor) in
    let terms = c.args.terms.now in
    let i = c.loop-term.term-index in
    record {
      value = term_added k (λ u. value_multiple f (value_product (cyclotomic k) (root k c.args.start) u)) (scaled_sums k f _) terms i no_term
          c.loop-term-test.true _ _ _ c.loop-term.invariant.value c.add_term.ensures.value;
      total = omega
          (arith, c.add_term.ensures.total, c.loop-term.invariant.total, ap (λ t. t * nat_abs f) (total_more terms i no_term c.loop-term-test.true));
    }
