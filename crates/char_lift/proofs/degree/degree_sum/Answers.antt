use Rattle.char_lift.proofs.Names.{◌≡◌, ◌+◌, ◌%◌, ◌<◌, sym, ap, ◌∙◌, subst, arith, mod-lt, size, modulus_bound, modulus_positive, zero-mod, sum_of, degree_term}
use Rattle.char_lift.proofs.SumLaws.{sum-zero, running}
use Rattle.char_lift.proofs.degree.degree_sum.Goals as goal

pub loop-x-init : goal.loop-x-init
loop-x-init c =
    let f = c.args.powers.now in
    record {
      so_far = sym (ap (λ a. a % f.q) (sum-zero (degree_term c.args.twist.now f.q f.conductor f.root c.args.ratios.now)) ∙ zero-mod f.q);
      below = modulus_positive f.q f.listed;
    }

pub overflow_add-sum : goal.overflow_add-sum
overflow_add-sum c =
    let f = c.args.powers.now in
    record { fits = omega (arith, modulus_bound f.q f.listed, c.loop-x.invariant.below, c.degree_term.ensures.below) }

pub loop-x-preserved : goal.loop-x-preserved
loop-x-preserved c =
    let f = c.args.powers.now in
    let total = c.loop-x.sum + c.degree_term.result in
    record {
      so_far =
          ap (λ m. total % m) c.q-q.ensures.q
          ∙ running f.q c.loop-x.x (degree_term c.args.twist.now f.q f.conductor f.root c.args.ratios.now) c.loop-x.sum c.degree_term.result c.loop-x.invariant.so_far c.degree_term.ensures.term;
      below = subst (λ m. total % m < f.q) (sym c.q-q.ensures.q) (mod-lt total (modulus_positive f.q f.listed));
    }

pub returns-clause-sum : goal.returns-clause-sum
returns-clause-sum c =
    let f = c.args.powers.now in
    let ended : c.loop-x.x ≡ size c.args.twist.now = omega (arith, c.loop-x-test.false, c.loop-x.auto.x-end, c.size-x-end.ensures.size) in
    c.loop-x.invariant.so_far ∙ ap (λ n. sum_of n (degree_term c.args.twist.now f.q f.conductor f.root c.args.ratios.now) % f.q) ended

pub returns-clause-below : goal.returns-clause-below
returns-clause-below c = c.loop-x.invariant.below
