use Rattle.char_lift.proofs.Names.{◌≡◌, ◌<◌, power_modulo, ListsPowers}
use Rattle.char_lift.proofs.root_powers.RootPowers.of.Given as goal

-- the powers with lower exponents are listed, and this is the next one
abbrev pub invariant-loop-exponent : goal.invariant-loop-exponent
invariant-loop-exponent l = record {
  listed : ListsPowers l.field.q l.field.root l._exponent l.powers;
  next : l.power ≡ power_modulo l.field.q l.field.root l._exponent;
  below : l.power < l.field.q;
}
