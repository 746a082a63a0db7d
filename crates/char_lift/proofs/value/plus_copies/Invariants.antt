use Rattle.char_lift.proofs.Names.{◌≡◌, ◌+◌, ◌≤◌, multiple, value_sum, cyclotomic_ring, cyclotomic_value, root, value_size}
use Rattle.char_lift.proofs.value.plus_copies.Given as goal

-- the copies so far are added
abbrev pub invariant-loop-copy : goal.invariant-loop-copy
invariant-loop-copy g l = record {
  so_far : cyclotomic_value g.row.K l.sum.coefficients ≡ value_sum (cyclotomic_value g.row.K l.value.coefficients) (multiple (cyclotomic_ring g.row.K) l._copy (root g.row.K l.e));
  small : value_size (cyclotomic_value g.row.K l.sum.coefficients) ≤ value_size (cyclotomic_value g.row.K l.value.coefficients) + l._copy;
}
