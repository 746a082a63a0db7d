use Rattle.prime_field.proofs.Names.{◌≡◌, ◌+◌, ◌*◌, length, true, is_modulus, AreBelow, ListsPowers}
use Rattle.prime_field.proofs.minimals.powers_of.Given as goal

abbrev pub invariant-loop-k : goal.invariant-loop-k
invariant-loop-k l = record {
  count : length l.powers.items ≡ (l.k + 1) * (l.w * l.w);
  below : AreBelow l.q l.powers.items;
  lists : (listed : is_modulus l.q ≡ true) → ListsPowers l.q listed l.w l.a (l.k + 1) l.powers.items;
}
