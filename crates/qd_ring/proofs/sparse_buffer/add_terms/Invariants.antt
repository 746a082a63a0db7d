-- What the terms so far have added.
use Rattle.qd_ring.proofs.Names.{◌≡◌, ◌+◌, ◌*◌, ◌≤◌, take, nat_abs, cyclotomic, value_sum, value_multiple, value_product, cyclotomic_value, root, total_of, value_of_terms, total_of_terms}
use Rattle.qd_ring.proofs.sparse_buffer.add_terms.Given as goal

abbrev pub invariant-loop-term : goal.invariant-loop-term
invariant-loop-term l = record {
  value : cyclotomic_value l.k l.buffer ≡ value_sum (cyclotomic_value l.k l.initial.buffer) (value_multiple l.fn.factor (value_product (cyclotomic l.k) (root l.k l.start) (value_of_terms l.k (take l.term-index l.terms))));
  total : total_of l.buffer ≤ total_of l.initial.buffer + nat_abs l.fn.factor * total_of_terms (take l.term-index l.terms);
}
