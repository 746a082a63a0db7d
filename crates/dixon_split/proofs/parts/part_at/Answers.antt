use Rattle.dixon_split.proofs.Names.{◌≡◌, ◌∙◌, ap, arith, modulus_positive, horner_value}
use Rattle.dixon_split.proofs.Layers.{horner_value_none, horner_value_step, part_value_is, place_small}
use Rattle.dixon_split.proofs.parts.part_at.Goals as goal

pub loop-j-init : goal.loop-j-init
loop-j-init c = record {
  below = modulus_positive c.args.algebra.now.q c.args.algebra.now.listed;
  so_far = horner_value_none c.args.algebra.now c.args.powers.now c.args.v c.args.k;
}

pub overflow_mul-place : goal.overflow_mul-place
overflow_mul-place c = record { fits = (let h = place_small c.args.algebra.now c.loop-j.j c.args.k c.loop-j-test.true c.requires.k_below in omega arith) }

pub overflow_add-place : goal.overflow_add-place
overflow_add-place c = record { fits = (let h = place_small c.args.algebra.now c.loop-j.j c.args.k c.loop-j-test.true c.requires.k_below in omega arith) }

pub loop-j-preserved : goal.loop-j-preserved
loop-j-preserved c = record {
  below = c.plus_product-sum.ensures.below;
  so_far = horner_value_step c.args.algebra.now c.args.powers.now c.args.v c.args.k c.loop-j.j c.loop-j.sum c.plus_product-sum.result c.loop-j.invariant.so_far (c.plus_product-sum.ensures.residue c.args.algebra.now.listed);
}

pub returns-clause-value : goal.returns-clause-value
returns-clause-value c =
    c.minus.ensures.residue c.args.algebra.now.listed
    ∙ part_value_is c.args.algebra.now c.args.powers.now c.args.v c.args.k c.loop-j.sum
    (let ended : c.loop-j.j ≡ c.args.algebra.now.q = omega arith in c.loop-j.invariant.so_far ∙ ap (λ n. (horner_value c.args.algebra.now c.args.powers.now c.args.v c.args.k n).value) ended)
