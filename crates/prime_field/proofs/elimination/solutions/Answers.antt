use Rattle.prime_field.proofs.Names.{◌≡◌, ◌*◌, sym, ap, ◌∙◌, arith, add-one, field_residue}
use Rattle.prime_field.proofs.EliminationSteps.{nothing_solved}
use Rattle.prime_field.proofs.ResidueRows.{identity_at, identity_below}
use Rattle.prime_field.proofs.ResidueSums.{at_slice}
use Rattle.prime_field.proofs.elimination.solutions.Goals as goal

pub loop-i-init : goal.loop-i-init
loop-i-init c =
    let t = c.in_ok-rows.ensures.rows in
    record {
      square = t.count;
      below = identity_below c.args.ring.now.q c.requires.modulus c.args.w _ t;
      solved = λ listed e same. nothing_solved _ c.args.w e _ (identity_at c.args.ring.now.q listed c.args.w _ t);
    }

pub loop-i-preserved : goal.loop-i-preserved
loop-i-preserved c = record {
  square = c.in_ok-rows-2.ensures.square;
  below = c.in_ok-rows-2.ensures.below;
  solved = λ listed e same.
      rw (add-one c.loop-i.i)
      (c.in_ok-rows-2.ensures.solved listed c.loop-i.i e
      (λ m h. same c.loop-i.i m (omega arith) h ∙ ap (field_residue c.args.ring.now.q listed) (sym (at_slice c.args.equations.now (c.loop-i.i * c.args.w) c.args.w m h)))
      (rw c.as_slice.ensures.value (c.loop-i.invariant.solved listed e same)));
}

pub returns-clause-solved : goal.returns-clause-solved
returns-clause-solved c = λ listed e same.
    (let ended : c.loop-i.i ≡ c.args.n = omega arith in rw (← ended) (c.loop-i.invariant.solved listed e same))
