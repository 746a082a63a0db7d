use Rattle.dixon_split.proofs.Names.{◌≡◌, ◌∙◌, ◌++◌, ap, sym, subst, arith, IsElement, residues, ArePowers}
use Rattle.dixon_split.proofs.Layers.{powers_none, powers_more, power_none, power_more}
use Rattle.dixon_split.proofs.parts.powers.Goals as goal

pub loop-j-init : goal.loop-j-init
loop-j-init c = record {
  powers = subst (ArePowers c.args.algebra.now c.args.t c.args.e.now 0) (sym c.new-powers.ensures.items) (powers_none c.args.algebra.now c.args.t c.args.e.now);
  element = subst (IsElement c.args.algebra.now.q c.args.algebra.now.rank) (sym c.in_ok-power.ensures.items) c.requires.element;
  power = λ Z H. ap (residues c.args.algebra.now) c.in_ok-power.ensures.items ∙ power_none c.args.algebra.now c.args.t c.args.e.now Z H;
}

pub loop-j-preserved : goal.loop-j-preserved
loop-j-preserved c = record {
  powers = powers_more c.args.algebra.now c.args.t c.args.e.now c.loop-j._j c.loop-j.powers.items _ c.loop-j.power.items c.loop-j.invariant.powers
      (c.in_ok-extend_from_slice.ensures.items ∙ ap (λ xs. c.loop-j.powers.items ++ xs) c.as_slice.ensures.value) c.loop-j.invariant.element c.loop-j.invariant.power;
  element = c.in_ok-power-2.ensures.element;
  power = λ Z H. c.in_ok-power-2.ensures.image Z H ∙ power_more c.args.algebra.now c.args.t c.args.e.now Z H c.loop-j._j _
      (ap (residues c.args.algebra.now) c.as_slice-in-loop-j.ensures.value ∙ c.loop-j.invariant.power Z H);
}

pub returns : goal.returns
returns c = record {
  powers = (let ended : c.loop-j._j ≡ c.args.algebra.now.q = omega arith in subst (λ n. ArePowers c.args.algebra.now c.args.t c.args.e.now n c.loop-j.powers.items) ended c.loop-j.invariant.powers);
}
