use Rattle.named_cocycles.proofs.Names.{◌≡◌, ◌^◌, ◌<◌, length, map, range_with_len, number_at, gauge_number}
use Rattle.named_cocycles.proofs.samples.gauge_numbers.Given as goal

-- the exponents of the pairs before place i, and what the generator has come to
abbrev pub invariant-loop-i : goal.invariant-loop-i
invariant-loop-i l = record {
  count : length l.numbers ≡ l.i;
  number_below : l.v < 2 ^ 31;
  number : l.v ≡ number_at l.w.group l.s l.i;
  kept : l.numbers ≡ map (gauge_number l.w l.s) (range_with_len 0 l.i);
}
