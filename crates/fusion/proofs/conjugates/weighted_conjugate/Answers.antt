use Rattle.fusion.proofs.Names.{◌∷◌, [], ap, ◌∙◌, arith, pos, w128, to_z, of_z, read_128, cyclotomic, value_product, cyclotomic_value, conjugate}
use Rattle.fusion.proofs.OrbitSums.{weighted_is}
use Rattle.fusion.proofs.conjugates.weighted_conjugate.Goals as goal

pub returns : goal.returns
returns g c =
    let k = g.row.K in
    let u = cyclotomic_value k c.in-Some.conjugate.coefficients in
    record {
      value = c.of.ensures ∙ c.in-Some-try_mul.ensures.value
          ∙ ap (value_product (cyclotomic k) u)
          (c.whole.ensures ∙ ap (λ v. cyclotomic_value k (v ∷ [])) (ap (λ v. to_z w128 (of_z w128 v)) c.from.ensures ∙ read_128 (pos c.args.pair.weight) (omega arith)))
          ∙ weighted_is k c.args.simples.now c.args.l c.args.pair.g c.args.pair.h c.args.pair.weight u
          (c.in-Some.ensures.value ∙ ap (conjugate k) (c.in-Ok.ensures.forms).stands);
    }
