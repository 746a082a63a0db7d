use Rattle.char_lift.proofs.Names.{◌≡◌, ◌-◌, ◌*◌, ◌%◌, ◌≤◌, slice_index, power_modulo, sum_of}
use Rattle.char_lift.proofs.multiplicities.inverse_transform.Given as goal

-- the terms before j, each below 337 * 337
abbrev pub invariant-loop-j : goal.invariant-loop-j
invariant-loop-j l = record {
  so_far : l.sum ≡ sum_of l.j (λ j. slice_index l.values j * power_modulo l.powers.q l.powers.root (l.powers.conductor - (l.i * j) % l.powers.conductor));
  small : l.sum ≤ l.j * 113569;
}
