use Rattle.std.proofs.Common.{◌<◌, sym, subst}
use Rattle.std.proofs.Math.Nat.{mod-lt}
use Rattle.std.specs.Prelude.{slice_index}
use Rattle.prime_field.specs.Laws.Moduli.{modulus_positive}
use Rattle.worked_fields.proofs.matrices.matrix_of.Goals as goal

pub loop-k-init : goal.loop-k-init
loop-k-init c = record {
  width = c.in_ok-matrix.ensures.width;
  entries_below = λ i j h k.
      subst (λ x. x < c.args.ring.now.q)
      (sym (c.in_ok-matrix.ensures.zeros i j (subst (λ n. i < n) c.in_ok-matrix.ensures.width h) (subst (λ n. j < n) c.in_ok-matrix.ensures.width k)))
      (modulus_positive c.args.ring.now.q c.args.ring.now.listed);
}

pub nonzero_rem-values : goal.nonzero_rem-values
nonzero_rem-values c = modulus_positive c.args.ring.now.q c.args.ring.now.listed

pub put-requires-clause-v_below : goal.put-requires-clause-v_below
put-requires-clause-v_below c = mod-lt (slice_index c.args.values.now c.loop-k.k) (modulus_positive c.args.ring.now.q c.args.ring.now.listed)
