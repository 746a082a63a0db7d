use Rattle.dixon_split.proofs.Names.{get_or, sym, ap, ◌∙◌, refl, zero-mod, sum_zero, field, field_residue, modulus_positive, sum_step, constant}
use Rattle.dixon_split.proofs.images.image_at.Goals as goal

pub loop-j-init : goal.loop-j-init
loop-j-init c = record {
  below = modulus_positive c.args.algebra.now.q c.args.algebra.now.listed;
  so_far =
      sym (ap (λ z. z.value) (sum_zero (field c.args.algebra.now.q c.args.algebra.now.listed)
      (λ j. (field c.args.algebra.now.q c.args.algebra.now.listed).mul (field_residue c.args.algebra.now.q c.args.algebra.now.listed (get_or c.args.e.now j 0)) (field_residue c.args.algebra.now.q c.args.algebra.now.listed (constant c.args.algebra.now c.args.t j c.args.k))))
      ∙ zero-mod c.args.algebra.now.q);
}

pub loop-j-preserved : goal.loop-j-preserved
loop-j-preserved c = record {
  below = c.plus_product-sum.ensures.below;
  so_far =
      sum_step c.args.algebra.now.q c.args.algebra.now.listed c.loop-j.j c.loop-j.sum c.plus_product-sum.result
      (λ j. (field c.args.algebra.now.q c.args.algebra.now.listed).mul (field_residue c.args.algebra.now.q c.args.algebra.now.listed (get_or c.args.e.now j 0)) (field_residue c.args.algebra.now.q c.args.algebra.now.listed (constant c.args.algebra.now c.args.t j c.args.k)))
      (field_residue c.args.algebra.now.q c.args.algebra.now.listed (get_or c.args.e.now c.loop-j.j 0)) (field_residue c.args.algebra.now.q c.args.algebra.now.listed (constant c.args.algebra.now c.args.t c.loop-j.j c.args.k))
      c.loop-j.invariant.so_far refl
      (c.plus_product-sum.ensures.residue c.args.algebra.now.listed ∙ ap (λ f. ((field c.args.algebra.now.q c.args.algebra.now.listed).add (field_residue c.args.algebra.now.q c.args.algebra.now.listed c.loop-j.sum) ((field c.args.algebra.now.q c.args.algebra.now.listed).mul (field_residue c.args.algebra.now.q c.args.algebra.now.listed (get_or c.args.e.now c.loop-j.j 0)) (field_residue c.args.algebra.now.q c.args.algebra.now.listed f))).value) c.constant-factor.ensures.constant);
}
