use Rattle.group_make.proofs.Names.{◌<◌, ◌%◌, ap, sym, refl, arith, mod-lt, pow-zero}
use Rattle.group_make.proofs.Bounds.{product_small, power_more}
use Rattle.group_make.proofs.formulas.power_modulo.Goals as goal

pub loop-step-init : goal.loop-step-init
loop-step-init c = record { power = ap (λ z. z % c.args.n) (sym (pow-zero c.args.r)); factor = refl }

pub overflow_mul-power : goal.overflow_mul-power
overflow_mul-power c =
    let power : c.loop-step.power < c.args.n = rw c.loop-step.invariant.power (mod-lt _ c.requires.positive) in
    let factor : c.args.r % c.args.n < c.args.n = mod-lt _ c.requires.positive in
    omega (arith, product_small c.args.n c.loop-step.power (c.args.r % c.args.n) c.requires.few power factor)

pub loop-step-preserved : goal.loop-step-preserved
loop-step-preserved c = record {
  power = power_more c.args.n c.args.r c.loop-step._step c.loop-step.power (c.args.r % c.args.n) c.loop-step.invariant.power refl;
  factor = c.loop-step.invariant.factor;
}
