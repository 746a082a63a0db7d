use Rattle.prime_field.proofs.Names.{◌≡◌, ◌<◌, true, sum_below, is_modulus, field, column_of}
use Rattle.prime_field.proofs.arithmetic.dot.Given as goal

abbrev pub invariant-loop-i : goal.invariant-loop-i
invariant-loop-i l = record {
  below : l.sum < l.q;
  so_far : (listed : is_modulus l.q ≡ true) → l.sum ≡ (sum_below (field l.q listed) l.i (λ j. (field l.q listed).mul (column_of l.q listed l.x j) (column_of l.q listed l.y j))).value;
}
