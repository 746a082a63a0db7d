use Rattle.fusion.proofs.Names.{◌≡◌, ◌%◌, Some, sym, ap, ◌∙◌, subst, arith, gamma, Forms, multiplied, root_exponent, full_character, left_quotient, quotient_commutes, product}
use Rattle.fusion.proofs.PlainParts.{multiplied_forms, turned_forms}
use Rattle.fusion.proofs.plain.tensor_term.Goals as goal

pub full_character-requires-2 : goal.full_character-requires-2
full_character-requires-2 g c =
    let s = c.args.simples.now in
    let t = s.cocycle.group in
    let there =
    quotient_commutes g.row.K s c.count-count.ensures.simples c.args.g c.args.x c.args.h c.requires.place.g_below c.requires.place.x_below c.requires.h_below c.requires.place.commute c.requires.h_commutes in (
      omega arith,
      (
        omega arith,
        (
          c.requires.place.j_below,
          (
            c.left_quotient-other.ensures.below,
            (
              c.requires.place.x_below,
              subst (λ r. product t r c.args.x ≡ product t c.args.x r) (sym c.left_quotient-other.ensures.quotient) there.1,
            ),
          ),
        ),
      ),
    )

pub returns : goal.returns
returns g c =
    let k = g.row.K in
    let s = c.args.simples.now in
    let w = s.cocycle in
    let other = left_quotient w.group c.args.h c.args.g in
    let left = full_character k s c.args.i c.args.h c.args.x in
    let right = full_character k s c.args.j other c.args.x in
    record {
      forms = turned_forms k c.in-Some-try_mul.product.conductor (root_exponent k w (gamma w c.args.x c.args.h other)) c.coproduct_root.result.exponent
          (multiplied k left right) c.in-Some-try_mul.product c.try_times.result
          (c.coproduct_root.ensures.root ∙ ap (λ r. root_exponent k w (gamma w c.args.x c.args.h r) % k) c.left_quotient-other.ensures.quotient)
          (multiplied_forms k left right c.in-Some.left c.in-Some-full_character.right (Some c.in-Some-try_mul.product) c.in-Some.ensures.forms
          (subst (λ r. Forms (full_character k s c.args.j r c.args.x) (Some c.in-Some-full_character.right)) c.left_quotient-other.ensures.quotient c.in-Some-full_character.ensures.forms)
          c.in-Some-try_mul.ensures.fits c.in-Some-try_mul.ensures.value)
          c.try_times.ensures.fits c.try_times.ensures.value;
    }
