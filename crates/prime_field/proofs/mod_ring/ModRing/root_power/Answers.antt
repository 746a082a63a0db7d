use Rattle.prime_field.proofs.Names.{◌≡◌, ◌*◌, sym, ap, ◌∙◌, arith, mod-lt, power, power_zero, field, field_residue, modulus_over_one, modulus_positive, least_root_means}
use Rattle.prime_field.proofs.Inverses.{residues_fit}
use Rattle.prime_field.proofs.ResidueSums.{power_step}
use Rattle.prime_field.proofs.mod_ring.ModRing.root_power.Goals as goal

pub loop-step-init : goal.loop-step-init
loop-step-init c =
    let r = c.args.self.now in (
      sym (power_zero (field r.q r.listed) (field_residue r.q r.listed r.root)),
      modulus_over_one r.q r.listed,
    )

pub overflow_mul-power : goal.overflow_mul-power
overflow_mul-power c =
    let r = c.args.self.now in
    residues_fit r.q r.listed c.loop-step.power r.root c.loop-step.invariant.1 (least_root_means r.q r.conductor r.root r.least).below

pub nonzero_rem-power : goal.nonzero_rem-power
nonzero_rem-power c = modulus_positive c.args.self.now.q c.args.self.now.listed

pub loop-step-preserved : goal.loop-step-preserved
loop-step-preserved c =
    let r = c.args.self.now in (
      power_step r.q r.listed r.root c.loop-step.power c.loop-step._step c.loop-step.invariant.0,
      mod-lt (c.loop-step.power * r.root) (modulus_positive r.q r.listed),
    )

pub returns-clause-power : goal.returns-clause-power
returns-clause-power c =
    let r = c.args.self.now in
    let ended : c.loop-step._step ≡ c.args.exponent = omega (arith, c.loop-step-test.false, c.loop-step.auto._step-end) in
    c.loop-step.invariant.0 ∙ ap (power (field r.q r.listed) (field_residue r.q r.listed r.root)) ended

pub returns-clause-below : goal.returns-clause-below
returns-clause-below c = c.loop-step.invariant.1
