use Rattle.dixon_split.proofs.Names.{ℕ, ◌∙◌, ap, sym, get_or, power, field, field_residue, phase, left_quotient, root, exponent, residue_root}
use Rattle.dixon_split.specs.ClassSums.{residue_field}
use Rattle.dixon_split.proofs.ClassSums.{term_added, term_skipped, term_without_second, quotient_place}
use Rattle.dixon_split.proofs.class_sums.plus_term.Goals as goal

pub returns-then-first-eq0-clause-sum : goal.returns-then-first-eq0-clause-sum
returns-then-first-eq0-clause-sum c =
    term_skipped c.args.ring.now.q c.args.ring.now.listed c.args.sum (get_or c.args.a.now c.args.y 0)
    (root (residue_field c.args.ring.now) (residue_root c.args.ring.now) c.args.twist.now (phase c.args.twist.now c.args.y (left_quotient c.args.twist.now c.args.y c.args.x)))
    (field_residue c.args.ring.now.q c.args.ring.now.listed (get_or c.args.b.now (left_quotient c.args.twist.now c.args.y c.args.x) 0))
    c.requires.sum_below c.if-first-eq0.true

pub returns-then-second-eq0-clause-sum : goal.returns-then-second-eq0-clause-sum
returns-then-second-eq0-clause-sum c =
    term_without_second c.args.ring.now.q c.args.ring.now.listed c.args.sum (get_or c.args.b.now (left_quotient c.args.twist.now c.args.y c.args.x) 0)
    (root (residue_field c.args.ring.now) (residue_root c.args.ring.now) c.args.twist.now (phase c.args.twist.now c.args.y (left_quotient c.args.twist.now c.args.y c.args.x)))
    (field_residue c.args.ring.now.q c.args.ring.now.listed (get_or c.args.a.now c.args.y 0))
    c.requires.sum_below (ap (λ p. get_or c.args.b.now p 0)
    (sym (quotient_place c.args.twist.now c.group-group.result.now c.inverse.result c.product-place.result c.args.y c.args.x c.product-place.ensures.product c.inverse.ensures.inverse c.group-group.ensures.group))
    ∙ c.if-second-eq0.true)

pub returns-clause-sum : goal.returns-clause-sum
returns-clause-sum c =
    let q = c.args.ring.now.q in
    let of = λ (v : ℕ). field_residue q c.args.ring.now.listed v in
    let quotient =
    quotient_place c.args.twist.now c.group-group.result.now c.inverse.result c.product-place.result c.args.y c.args.x c.product-place.ensures.product c.inverse.ensures.inverse c.group-group.ensures.group in
    term_added q c.args.ring.now.listed c.args.sum c.root_of-root.result (get_or c.args.a.now c.args.y 0) (get_or c.args.b.now (left_quotient c.args.twist.now c.args.y c.args.x) 0)
    c.plus_product-product.result c.plus_product.result
    (root (residue_field c.args.ring.now) (residue_root c.args.ring.now) c.args.twist.now (phase c.args.twist.now c.args.y (left_quotient c.args.twist.now c.args.y c.args.x)))
    (c.root_of-root.ensures.root
    ∙ ap (λ e. power (residue_field c.args.ring.now) (residue_root c.args.ring.now).root e)
    (c.exponent.ensures.exponent ∙ ap (exponent c.args.ring.now.conductor c.args.twist.now) (c.phase.ensures.phase ∙ ap (phase c.args.twist.now c.args.y) quotient)))
    (c.plus_product-product.ensures.residue c.args.ring.now.listed
    ∙ ap (λ z. ((field q c.args.ring.now.listed).add (of 0) ((field q c.args.ring.now.listed).mul (of (get_or c.args.a.now c.args.y 0)) (of (get_or c.args.b.now z 0)))).value) quotient)
    (c.plus_product.ensures.residue c.args.ring.now.listed)
