use Rattle.prime_field.proofs.Names.{◌≡◌, length, sym, ap, ◌∙◌, arith, refl, zero-mod, sum_below, sum_zero, field, column_of, dot_is, modulus_positive}
use Rattle.prime_field.proofs.ResidueSums.{sum_step}
use Rattle.prime_field.proofs.arithmetic.dot.Goals as goal

pub loop-i-init : goal.loop-i-init
loop-i-init c = record {
  below = modulus_positive c.args.q c.requires.modulus;
  so_far = λ listed.
      sym (ap (λ z. z.value) (sum_zero (field c.args.q listed) (λ j. (field c.args.q listed).mul (column_of c.args.q listed c.args.x.now j) (column_of c.args.q listed c.args.y.now j)))
      ∙ zero-mod c.args.q);
}

pub loop-i-preserved : goal.loop-i-preserved
loop-i-preserved c = record {
  below = c.plus_product-sum.ensures.below;
  so_far = λ listed.
      sum_step c.args.q listed c.loop-i.i c.loop-i.sum c.plus_product-sum.result
      (λ j. (field c.args.q listed).mul (column_of c.args.q listed c.args.x.now j) (column_of c.args.q listed c.args.y.now j))
      (column_of c.args.q listed c.args.x.now c.loop-i.i) (column_of c.args.q listed c.args.y.now c.loop-i.i)
      (c.loop-i.invariant.so_far listed) refl (c.plus_product-sum.ensures.residue listed);
}

pub returns-clause-dot : goal.returns-clause-dot
returns-clause-dot c = λ listed.
    (let ended : c.loop-i.i ≡ length c.args.x.now = omega arith in
    c.loop-i.invariant.so_far listed
    ∙ ap (λ n. (sum_below (field c.args.q listed) n (λ j. (field c.args.q listed).mul (column_of c.args.q listed c.args.x.now j) (column_of c.args.q listed c.args.y.now j))).value) ended
    ∙ ap (λ z. z.value) (sym (dot_is (field c.args.q listed) (length c.args.x.now) (column_of c.args.q listed c.args.x.now) (column_of c.args.q listed c.args.y.now))))
