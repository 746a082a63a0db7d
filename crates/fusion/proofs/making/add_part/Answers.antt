use Rattle.fusion.proofs.Names.{◌≡◌, ◌%◌, true, sym, ap, ◌∙◌, eqb-true, eq-eqb, and_true, value_sum, value_of_terms, folded_value, gamma, root_exponent, full_character, commute, left_quotient, quotient_commutes, value_or_nought, full_term, tensor_part}
use Rattle.fusion.proofs.TensorSums.{as_value, part_missed, part_first, part_second, part_is, left_out}
use Rattle.fusion.proofs.making.add_part.Goals as goal
use Rattle.fusion.proofs.making.add_part.Given.{Over}
use Rattle.fusion.proofs.making.add_part.Goals.{After-full_at, After-full_at-2}

-- h commutes with x
commutes : (g : Over) (c : After-full_at g) → commute c.args.simples.now.cocycle.group c.args.h c.args.x ≡ true
commutes g c = (and_true _ _ (sym c.if-not-meets.ensures.meets)).0

-- the full character at h
left_is : (g : Over) (c : After-full_at g) → value_or_nought g.row.K c.full_at.result.now ≡ (full_character g.row.K c.args.simples.now c.args.i c.args.h c.args.x).value
left_is g c =
    let s = c.args.simples.now in
    c.full_at.ensures.value ∙ as_value g.row.K (commute s.cocycle.group c.args.h c.args.x) (full_character g.row.K s c.args.i c.args.h c.args.x) (commutes g c)

-- that at h^-1 g
right_is : (g : Over) (c : After-full_at-2 g)
    → value_or_nought g.row.K c.full_at-2.result.now ≡ (full_character g.row.K c.args.simples.now c.args.j (left_quotient c.args.simples.now.cocycle.group c.args.h c.args.g) c.args.x).value
right_is g c =
    let k = g.row.K in
    let s = c.args.simples.now in
    let t = s.cocycle.group in
    let other = left_quotient t c.args.h c.args.g in
    let so = eqb-true _ _ (commutes g (goal.at.After-full_at-2 g c).After-full_at) in
    let there = quotient_commutes k s c.count-count.ensures.simples c.args.g c.args.x c.args.h c.requires.place.g_below c.requires.place.x_below c.requires.h_below c.requires.place.commute so in
    c.full_at-2.ensures.value ∙ ap (λ r. (full_term k s c.args.j r c.args.x).value) c.left_quotient-other.ensures.quotient
    ∙ as_value k (commute t other c.args.x) (full_character k s c.args.j other c.args.x) (eq-eqb _ _ there.1)

pub returns-then-not-meets : goal.returns-then-not-meets
returns-then-not-meets g c =
    let k = g.row.K in
    let s = c.args.simples.now in
    record {
      value = λ there. left_out k (folded_value k c.args.folded.now) (tensor_part k s c.args.i c.args.j c.args.g c.args.x c.args.h).value
          (part_missed k s c.args.i c.args.j c.args.g c.args.x c.args.h (sym c.if-not-meets.ensures.meets));
    }

pub returns-in_default : goal.returns-in_default
returns-in_default g c =
    let k = g.row.K in
    let s = c.args.simples.now in
    record {
      value = λ there. left_out k (folded_value k c.args.folded.now) (tensor_part k s c.args.i c.args.j c.args.g c.args.x c.args.h).value
          (part_first k s c.args.i c.args.j c.args.g c.args.x c.args.h
          (sym (left_is g (goal.at.returns-in_default g c).After-full_at) ∙ ap (value_or_nought k) c.in_default.is));
    }

pub returns-in_default-full_at : goal.returns-in_default-full_at
returns-in_default-full_at g c =
    let k = g.row.K in
    let s = c.args.simples.now in
    record {
      value = λ there. left_out k (folded_value k c.args.folded.now) (tensor_part k s c.args.i c.args.j c.args.g c.args.x c.args.h).value
          (part_second k s c.args.i c.args.j c.args.g c.args.x c.args.h
          (sym (right_is g (goal.at.returns-in_default-full_at g c).After-full_at-2) ∙ ap (value_or_nought k) c.in_default-full_at.is));
    }

pub returns : goal.returns
returns g c =
    let k = g.row.K in
    let s = c.args.simples.now in
    let w = s.cocycle in
    let at = goal.at.returns g c in
    record {
      value = λ there. c.add_product.ensures.value there
          ∙ ap (value_sum (folded_value k c.args.folded.now))
          (part_is k s c.coproduct_root.result.conductor c.args.i c.args.j c.args.g c.args.x c.args.h c.coproduct_root.result.exponent _ _
          (commutes g at.After-full_at)
          (c.coproduct_root.ensures.root ∙ ap (λ r. root_exponent k w (gamma w c.args.x c.args.h r) % k) c.left_quotient-other.ensures.quotient)
          (ap (value_of_terms k) c.deref.ensures ∙ sym (ap (value_or_nought k) c.in-Some.is) ∙ left_is g at.After-full_at)
          (ap (value_of_terms k) c.deref-2.ensures ∙ sym (ap (value_or_nought k) c.in-Some-full_at.is) ∙ right_is g at.After-full_at-2));
    }
