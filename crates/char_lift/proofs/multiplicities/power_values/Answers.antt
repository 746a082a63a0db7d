use Rattle.char_lift.proofs.Names.{◌≡◌, ℕ, ◌+◌, ◌*◌, ◌%◌, get_or, length, sym, ap, ◌∙◌, subst, arith, ap₂, power, Table, product, identity_of, phase, place_power, power_phase, conductor_bounds, power_phase-zero, tabulated, root_residue, power_value, length-tabulated, tabulated-more}
use Rattle.char_lift.proofs.Residues.{product_of_three}
use Rattle.char_lift.proofs.TransformLaws.{place_more, phase_more}
use Rattle.char_lift.proofs.multiplicities.power_values.Goals as goal

pub loop-exponent-init : goal.loop-exponent-init
unfolding power
loop-exponent-init c =
    let f = c.args.powers.now in
    let order = ap (λ (t : Table). t.order) c.group-group.ensures.group in
    record {
      so_far = c.empty-values.ensures.empty;
      at = c.identity-place.ensures.identity ∙ ap (λ (t : Table). identity_of t) c.group-group.ensures.group;
      place_below = omega (arith, c.identity-place.ensures.identity, c.identity-place.ensures.below, order);
      with = sym (power_phase-zero c.args.twist.now c.args.x);
      phase_at_most = omega arith;
    }

pub push-requires : goal.push-requires
push-requires c =
    let f = c.args.powers.now in
    let value = λ (j : ℕ). power_value c.args.twist.now f.q f.conductor f.root c.args.ratios.now c.args.degree c.args.x j % f.q in
    let bounds = conductor_bounds f.conductor f.entry in
    record {
      room = omega
          (arith, ap length c.loop-exponent.invariant.so_far, length-tabulated c.loop-exponent._exponent value, c.loop-exponent-test.true, c.conductor-exponent-end.ensures.conductor, bounds.0);
    }

pub loop-exponent-preserved : goal.loop-exponent-preserved
loop-exponent-preserved c =
    let s = c.args.twist.now in
    let f = c.args.powers.now in
    let x = c.args.x in
    let e = c.loop-exponent._exponent in
    let value = λ (j : ℕ). power_value s f.q f.conductor f.root c.args.ratios.now c.args.degree x j % f.q in
    let order = ap (λ (t : Table). t.order) c.group-group.ensures.group in
    record {
      so_far =
          tabulated-more e value c.loop-exponent.invariant.so_far c.in_ok-push.ensures.added
          (c.product.ensures.product
          ∙ ap₂ (λ a b. (a * b) % f.q)
          (c.product-scaled.ensures.product
          ∙ ap (λ r. (r * c.args.degree) % f.q) (c.root.ensures.root ∙ ap (root_residue s f.q f.conductor f.root) c.loop-exponent.invariant.with))
          (c.at.ensures.number ∙ ap (λ p. get_or c.args.ratios.now p 0) c.loop-exponent.invariant.at)
          ∙ product_of_three f.q (root_residue s f.q f.conductor f.root (power_phase s x e)) c.args.degree (get_or c.args.ratios.now (place_power s x e) 0));
      at =
          c.product-place.ensures.product ∙ ap (λ (t : Table). product t c.loop-exponent.place x) c.group-group.ensures.group
          ∙ ap (λ p. product s.group p x) c.loop-exponent.invariant.at ∙ place_more s x e;
      place_below = omega (arith, c.product-place.ensures.product, c.product-place.ensures.below, order);
      with =
          ap (λ m. (c.loop-exponent.phase + c.phase.result) % m) c.modulus.ensures.modulus
          ∙ ap₂ (λ a b. (a + b) % s.modulus) c.loop-exponent.invariant.with (c.phase.ensures.phase ∙ ap (λ p. phase s p x) c.loop-exponent.invariant.at)
          ∙ phase_more s x e;
      phase_at_most = omega (arith, c.modulus.ensures.modulus, c.modulus.ensures.twist.modulus.from_one);
    }

pub returns : goal.returns
returns c =
    let f = c.args.powers.now in
    let value = λ (j : ℕ). power_value c.args.twist.now f.q f.conductor f.root c.args.ratios.now c.args.degree c.args.x j % f.q in
    let ended : c.loop-exponent._exponent ≡ f.conductor =
    omega (arith, c.loop-exponent-test.false, c.loop-exponent.auto._exponent-end, c.conductor-exponent-end.ensures.conductor) in
    record { values = subst (λ n. c.loop-exponent.values ≡ tabulated n value) ended c.loop-exponent.invariant.so_far }
