use Rattle.char_lift.proofs.Names.{◌≡◌, ◌*◌, ◌%◌, ◌<◌, suc, sym, ap, ◌∙◌, subst, arith, mod-lt, conductor_bounds, modulus_over_one, modulus_positive, residues_fit, mod-eq_of_lt, ListsPowers}
use Rattle.char_lift.proofs.Residues.{power-zero, power-suc, no_powers, one_power_more}
use Rattle.char_lift.proofs.root_powers.RootPowers.of.Goals as goal

pub overflow_add-exponent-end : goal.overflow_add-exponent-end
overflow_add-exponent-end c =
    let bounds = conductor_bounds c.args.field.now.conductor c.args.field.now.entry in
    record { fits = omega (arith, bounds.0) }

pub loop-exponent-init : goal.loop-exponent-init
loop-exponent-init c =
    let f = c.args.field.now in
    let over : 1 < f.q = modulus_over_one f.q f.listed in
    record {
      listed = subst (ListsPowers f.q f.root 0) (sym c.empty-powers.ensures.empty) (no_powers f.q f.root);
      next = sym (power-zero f.q f.root ∙ mod-eq_of_lt over);
      below = over;
    }

pub push-requires : goal.push-requires
push-requires c =
    let bounds = conductor_bounds c.args.field.now.conductor c.args.field.now.entry in
    record { room = omega (arith, c.loop-exponent.invariant.listed.count, c.loop-exponent-test.true, bounds.0) }

pub overflow_mul-power : goal.overflow_mul-power
overflow_mul-power c =
    let f = c.args.field.now in
    residues_fit f.q f.listed c.loop-exponent.power c.root-root.result c.loop-exponent.invariant.below c.root-root.ensures.below

pub loop-exponent-preserved : goal.loop-exponent-preserved
loop-exponent-preserved c =
    let f = c.args.field.now in
    let e = c.loop-exponent._exponent in
    let p = c.loop-exponent.power in
    record {
      listed = one_power_more f.q f.root e p c.loop-exponent.powers c.push.new.self c.loop-exponent.invariant.listed c.in_ok-push.ensures.added c.loop-exponent.invariant.next;
      next =
          ap (λ m. (p * c.root-root.result) % m) c.q-q.ensures.q ∙ ap (λ r. (p * r) % f.q) c.root-root.ensures.root
          ∙ ap (λ a. (a * f.root) % f.q) c.loop-exponent.invariant.next ∙ sym (power-suc f.q f.root e);
      below = subst (λ m. (p * c.root-root.result) % m < f.q) (sym c.q-q.ensures.q) (mod-lt (p * c.root-root.result) (modulus_positive f.q f.listed));
    }

pub invariant_of-result : goal.invariant_of-result
invariant_of-result c =
    let f = c.args.field.now in
    let ended : c.loop-exponent._exponent ≡ suc f.conductor = omega (arith, c.loop-exponent-test.false, c.loop-exponent.auto._exponent-end) in
    subst (λ n. ListsPowers f.q f.root n c.loop-exponent.powers) ended c.loop-exponent.invariant.listed
