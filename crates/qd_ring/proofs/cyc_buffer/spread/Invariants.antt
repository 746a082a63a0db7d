-- What the coefficients so far have added.
use Rattle.qd_ring.proofs.Names.{◌≡◌, ◌+◌, ◌*◌, ◌%◌, ◌≤◌, ◌<◌, take, at_power, cyclotomic, value_sum, value_product, cyclotomic_value, root, total_of}
use Rattle.qd_ring.proofs.cyc_buffer.spread.Given as goal

abbrev pub invariant-loop-a : goal.invariant-loop-a
invariant-loop-a l = record {
  below : l.place < l.k;
  place : l.place ≡ (l.start + l.stride * l.a-index) % l.k;
  value : cyclotomic_value l.k l.buffer ≡ value_sum (cyclotomic_value l.k l.initial.buffer) (value_product (cyclotomic l.k) (root l.k l.start) (cyclotomic_value l.k (at_power l.stride (take l.a-index l.coefficients))));
  total : total_of l.buffer ≤ total_of l.initial.buffer + total_of (take l.a-index l.coefficients);
}
