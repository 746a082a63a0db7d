use Rattle.char_lift.proofs.Names.{◌≡◌, ◌%◌, ◌<◌, ◌≤◌, size, place_power, power_phase, tabulated, power_value}
use Rattle.char_lift.proofs.multiplicities.power_values.Given as goal

-- the values at the powers with lower exponents, and the place and the phase of this power
abbrev pub invariant-loop-exponent : goal.invariant-loop-exponent
invariant-loop-exponent l = record {
  so_far : l.values ≡ tabulated l._exponent (λ j. power_value l.twist l.powers.q l.powers.conductor l.powers.root l.ratios l.degree l.x j % l.powers.q);
  at : l.place ≡ place_power l.twist l.x l._exponent;
  place_below : l.place < size l.twist;
  with : l.phase ≡ power_phase l.twist l.x l._exponent;
  phase_at_most : l.phase ≤ l.twist.modulus;
}
