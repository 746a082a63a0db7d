use Rattle.prime_field.proofs.Names.{◌∷◌, [], ◌++◌, length, sym, ap, ◌∙◌, arith, lit<, passing_below-zero, passing_below-passes, passing_below-fails, is_root}
use Rattle.prime_field.proofs.PolynomialValues.{roots_fit}
use Rattle.prime_field.proofs.poly.roots.Goals as goal
use Rattle.prime_field.proofs.poly.roots.Goals.{then-is_root, else-is_root}

pub loop-x-init : goal.loop-x-init
loop-x-init c = c.new-found.ensures ∙ sym (passing_below-zero (is_root c.q-q.result c.as_slice-coefficients.result.now))

pub push-requires : goal.push-requires
push-requires c = (
  lit< tt,
  roots_fit c.q-q.result c.args.ring.now.q c.loop-x.x c.as_slice-coefficients.result.now c.args.f.now c.loop-x.found.items
      c.q-q.ensures.listed c.q-q.ensures.q (c.as_slice-coefficients.ensures.value ∙ c.f.view_is) c.requires.some_coefficient
      (omega (arith, c.f.invariant, ap length c.as_slice-coefficients.ensures.value)) c.loop-x.auto.x-end c.loop-x.invariant,
)

pub loop-x-preserved : goal.loop-x-preserved
loop-x-preserved c = elim c.if-is_root.branch [
  | then-is_root w ↦
      ap (λ v. v.items) w.found-is ∙ w.push.ensures.items ∙ ap (λ xs. xs ++ c.loop-x.x ∷ []) c.loop-x.invariant
      ∙ sym (passing_below-passes c.loop-x.x (is_root c.q-q.result c.as_slice-coefficients.result.now) (sym c.is_root.ensures.root ∙ w.if-is_root.true))
  | else-is_root w ↦
      ap (λ v. v.items) w.found-is ∙ c.loop-x.invariant
      ∙ sym (passing_below-fails c.loop-x.x (is_root c.q-q.result c.as_slice-coefficients.result.now) (sym c.is_root.ensures.root ∙ w.if-is_root.false))
]

pub invariant_of-result : goal.invariant_of-result
invariant_of-result c =
    (let few = roots_fit c.q-q.result c.args.ring.now.q c.loop-x.x c.as_slice-coefficients.result.now c.args.f.now c.loop-x.found.items
    c.q-q.ensures.listed c.q-q.ensures.q (c.as_slice-coefficients.ensures.value ∙ c.f.view_is) c.requires.some_coefficient
    (omega (arith, c.f.invariant, ap length c.as_slice-coefficients.ensures.value)) c.loop-x.auto.x-end c.loop-x.invariant in
    omega (arith, few))
