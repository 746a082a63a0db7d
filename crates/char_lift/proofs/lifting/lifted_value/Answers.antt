use Rattle.char_lift.proofs.Names.{◌≡◌, ℕ, ◌%◌, true, length, sym, ap, ◌∙◌, subst, arith, Some, lit<, mod-lt, slice_index, is_conductor, array_of, conductor_bounds, AreBelow, modulus_bound, modulus_positive, sum_of, tabulated, power_value, inverse_transform, multiplicity, with_multiplicities, Multiplicity, length-tabulated}
use Rattle.char_lift.proofs.SumLaws.{tabulated-below}
use Rattle.char_lift.proofs.TransformLaws.{transform_below, transform_of_table, sum_of_table, value_of_table}
use Rattle.char_lift.proofs.FaultLaws.{place_holds, place_fails}
use Rattle.char_lift.proofs.lifting.lifted_value.Goals as goal

pub multiplicities-requires : goal.multiplicities-requires
multiplicities-requires g c =
    let f = c.args.powers.now in
    let value = λ (j : ℕ). power_value c.args.twist.now f.q f.conductor f.root c.args.ratios.now c.args.degree c.args.x j % f.q in
    record {
      count = ap length c.in_ok-values.ensures.values ∙ length-tabulated f.conductor value;
      below = subst (AreBelow f.q) (sym c.in_ok-values.ensures.values)
          (tabulated-below f.q f.conductor value (λ j h. mod-lt (power_value c.args.twist.now f.q f.conductor f.root c.args.ratios.now c.args.degree c.args.x j) (modulus_positive f.q f.listed)));
    }

pub total-sum-requires-clause-few : goal.total-sum-requires-clause-few
total-sum-requires-clause-few g c =
    let f = c.args.powers.now in
    let bounds = conductor_bounds f.conductor f.entry in
    omega
    (arith, ap length c.in_ok-counts.ensures.multiplicities, length-tabulated f.conductor (inverse_transform f.q f.conductor f.root (slice_index c.in_ok-values.values)), bounds.0)

pub total-sum-requires-clause-small : goal.total-sum-requires-clause-small
total-sum-requires-clause-small g c =
    let f = c.args.powers.now in
    let transform = inverse_transform f.q f.conductor f.root (slice_index c.in_ok-values.values) in
    subst (AreBelow 337) (sym c.in_ok-counts.ensures.multiplicities)
    (tabulated-below 337 f.conductor transform
    (λ i h. omega (arith, transform_below f.q f.conductor f.root (modulus_positive f.q f.listed) (slice_index c.in_ok-values.values) i, modulus_bound f.q f.listed)))

pub returns-then-sum-degree-clause-refused : goal.returns-then-sum-degree-clause-refused
returns-then-sum-degree-clause-refused g c =
    let s = c.args.twist.now in
    let f = c.args.powers.now in
    let counted = multiplicity s f.q f.conductor f.root c.args.ratios.now c.args.degree c.args.x in
    let counts : c.in_ok-counts.counts ≡ tabulated f.conductor counted =
    c.in_ok-counts.ensures.multiplicities
    ∙ transform_of_table f.q f.conductor f.root (power_value s f.q f.conductor f.root c.args.ratios.now c.args.degree c.args.x) c.in_ok-values.values c.in_ok-values.ensures.values in
    let sum : c.total-sum.result ≡ sum_of f.conductor counted = c.total-sum.ensures.total ∙ sum_of_table f.conductor counted c.in_ok-counts.counts counts in
    place_fails s f.q f.conductor f.root c.args.row c.args.ratios.now c.args.degree c.args.x c.total-sum.result sum c.if-sum-degree.true
    ∙ ap (λ e. Some (Multiplicity c.args.row e c.total-sum.result c.args.degree)) (sym c.element-x.ensures.element)

pub with_multiplicities-requires : goal.with_multiplicities-requires
with_multiplicities-requires g c =
    let s = c.args.twist.now in
    let f = c.args.powers.now in
    let counted = multiplicity s f.q f.conductor f.root c.args.ratios.now c.args.degree c.args.x in
    let counts : c.in_ok-counts.counts ≡ tabulated f.conductor counted =
    c.in_ok-counts.ensures.multiplicities
    ∙ transform_of_table f.q f.conductor f.root (power_value s f.q f.conductor f.root c.args.ratios.now c.args.degree c.args.x) c.in_ok-values.values c.in_ok-values.ensures.values in
    let sum : c.total-sum.result ≡ sum_of f.conductor counted = c.total-sum.ensures.total ∙ sum_of_table f.conductor counted c.in_ok-counts.counts counts in
    let count : length c.in_ok-counts.counts ≡ g.row.K = ap length counts ∙ length-tabulated f.conductor counted ∙ c.requires.conductor in (
      lit< tt,
      (
        subst (λ k. is_conductor k ≡ true) c.requires.conductor f.entry,
        (
          count,
          omega (arith, c.total-sum.ensures.total, ap (λ n. sum_of n (slice_index c.in_ok-counts.counts)) count, c.if-sum-degree.false, c.requires.degree_small),
        ),
      ),
    )

pub returns-clause-faultless : goal.returns-clause-faultless
returns-clause-faultless g c =
    let s = c.args.twist.now in
    let f = c.args.powers.now in
    let counted = multiplicity s f.q f.conductor f.root c.args.ratios.now c.args.degree c.args.x in
    let counts : c.in_ok-counts.counts ≡ tabulated f.conductor counted =
    c.in_ok-counts.ensures.multiplicities
    ∙ transform_of_table f.q f.conductor f.root (power_value s f.q f.conductor f.root c.args.ratios.now c.args.degree c.args.x) c.in_ok-values.values c.in_ok-values.ensures.values in
    let sum : c.total-sum.result ≡ sum_of f.conductor counted = c.total-sum.ensures.total ∙ sum_of_table f.conductor counted c.in_ok-counts.counts counts in
    place_holds s f.q f.conductor f.root c.args.row c.args.ratios.now c.args.degree c.args.x c.total-sum.result sum c.if-sum-degree.false

pub returns-clause-value : goal.returns-clause-value
returns-clause-value g c =
    let s = c.args.twist.now in
    let f = c.args.powers.now in
    let counted = multiplicity s f.q f.conductor f.root c.args.ratios.now c.args.degree c.args.x in
    let counts : c.in_ok-counts.counts ≡ tabulated f.conductor counted =
    c.in_ok-counts.ensures.multiplicities
    ∙ transform_of_table f.q f.conductor f.root (power_value s f.q f.conductor f.root c.args.ratios.now c.args.degree c.args.x) c.in_ok-values.values c.in_ok-values.ensures.values in
    subst (λ k. c.with_multiplicities.result.coefficients ≡ array_of (with_multiplicities k (slice_index c.in_ok-counts.counts))) (sym c.requires.conductor) c.with_multiplicities.ensures.value
    ∙ ap array_of (value_of_table f.conductor counted c.in_ok-counts.counts counts)
