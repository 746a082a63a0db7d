use Rattle.char_lift.proofs.Names.{◌≡◌, ℕ, ◌+◌, ◌-◌, ◌*◌, ◌%◌, ◌<◌, ◌≤◌, sym, ap, ◌∙◌, arith, mul-le, slice_index, ap₂, conductor_bounds, power_modulo, modulus_bound, residues_fit, sum_of}
use Rattle.char_lift.proofs.SumLaws.{sum-zero, sum-more}
use Rattle.char_lift.proofs.TransformLaws.{transform_of_sum}
use Rattle.char_lift.proofs.multiplicities.inverse_transform.Goals as goal

pub loop-j-init : goal.loop-j-init
loop-j-init c =
    let f = c.args.powers.now in
    record {
      so_far = sym (sum-zero (λ j. slice_index c.args.values.now j * power_modulo f.q f.root (f.conductor - (c.args.i * j) % f.conductor)));
      small = omega arith;
    }

pub overflow_mul-i : goal.overflow_mul-i
overflow_mul-i c =
    let f = c.args.powers.now in
    let bounds = conductor_bounds f.conductor f.entry in
    let product : c.args.i * c.loop-j.j ≤ 120 * 120 =
    mul-le c.args.i c.loop-j.j 120 120 (omega (arith, bounds.0, c.requires.i_below)) (omega (arith, bounds.0, c.loop-j-test.true, c.conductor-conductor.ensures.conductor)) in
    record { fits = omega (arith, product) }

pub overflow_mul-sum : goal.overflow_mul-sum
overflow_mul-sum c =
    let f = c.args.powers.now in
    let below : c.at.result < f.q =
    omega (arith, c.at.ensures.number, c.requires.below c.loop-j.j (omega (arith, c.requires.count, c.loop-j-test.true, c.conductor-conductor.ensures.conductor))) in
    residues_fit f.q f.listed c.at.result c.power.result below c.power.ensures.below

pub overflow_add-sum : goal.overflow_add-sum
overflow_add-sum c =
    let f = c.args.powers.now in
    let bounds = conductor_bounds f.conductor f.entry in
    let below : c.at.result < f.q =
    omega (arith, c.at.ensures.number, c.requires.below c.loop-j.j (omega (arith, c.requires.count, c.loop-j-test.true, c.conductor-conductor.ensures.conductor))) in
    let term : c.at.result * c.power.result ≤ 337 * 337 =
    mul-le c.at.result c.power.result 337 337 (omega (arith, below, modulus_bound f.q f.listed)) (omega (arith, c.power.ensures.below, modulus_bound f.q f.listed)) in
    record { fits = omega (arith, term, c.loop-j.invariant.small, bounds.0, c.loop-j-test.true, c.conductor-conductor.ensures.conductor) }

pub loop-j-preserved : goal.loop-j-preserved
loop-j-preserved c =
    let f = c.args.powers.now in
    let below : c.at.result < f.q =
    omega (arith, c.at.ensures.number, c.requires.below c.loop-j.j (omega (arith, c.requires.count, c.loop-j-test.true, c.conductor-conductor.ensures.conductor))) in
    let term : c.at.result * c.power.result ≤ 337 * 337 =
    mul-le c.at.result c.power.result 337 337 (omega (arith, below, modulus_bound f.q f.listed)) (omega (arith, c.power.ensures.below, modulus_bound f.q f.listed)) in
    record {
      so_far =
          ap₂ (λ a b. a + b) c.loop-j.invariant.so_far (ap₂ (λ a b. a * b) c.at.ensures.number
          (c.power.ensures.power ∙ ap (λ k. power_modulo f.q f.root (k - (c.args.i * c.loop-j.j) % k)) c.conductor-conductor.ensures.conductor))
          ∙ sym (sum-more c.loop-j.j (λ j. slice_index c.args.values.now j * power_modulo f.q f.root (f.conductor - (c.args.i * j) % f.conductor)));
      small = omega (arith, term, c.loop-j.invariant.small);
    }

pub returns-clause-transform : goal.returns-clause-transform
returns-clause-transform c =
    let f = c.args.powers.now in
    let term = λ (j : ℕ). slice_index c.args.values.now j * power_modulo f.q f.root (f.conductor - (c.args.i * j) % f.conductor) in
    let ended : c.loop-j.j ≡ f.conductor = omega (arith, c.loop-j-test.false, c.loop-j.auto.j-end, c.conductor-conductor.ensures.conductor) in
    c.product.ensures.product
    ∙ ap₂ (λ a b. (a * b) % f.q) c.requires.inverse
    (ap (λ m. c.loop-j.sum % m) c.q.ensures.q ∙ ap (λ a. a % f.q) (c.loop-j.invariant.so_far ∙ ap (λ n. sum_of n term) ended))
    ∙ transform_of_sum f.q f.conductor f.root (slice_index c.args.values.now) c.args.i
