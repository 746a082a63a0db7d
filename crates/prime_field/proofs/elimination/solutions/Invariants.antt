use Rattle.prime_field.proofs.Names.{◌≡◌, ◌*◌, ◌<◌, ℕ, length, true, is_modulus, field, Below, IsSolved, AreBelow, matrix_of}
use Rattle.prime_field.proofs.elimination.solutions.Given as goal

abbrev pub invariant-loop-i : goal.invariant-loop-i
invariant-loop-i l = record {
  square : length l.rows.items ≡ l.w * l.w;
  below : AreBelow l.ring.q l.rows.items;
  solved : (listed : is_modulus l.ring.q ≡ true) (e : ℕ → ℕ → Below l.ring.q)
      → ((k m : ℕ) → k < l.n → m < l.w → e k m ≡ matrix_of l.ring.q listed l.w l.equations k m)
      → IsSolved (field l.ring.q listed) l.i l.w e (matrix_of l.ring.q listed l.w l.rows.items);
}
