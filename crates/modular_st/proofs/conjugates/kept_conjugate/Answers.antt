use Rattle.cyclotomic.specs.CyclotomicRing.{cyclotomic_value}
use Rattle.modular_st.proofs.KeptValues.{kept_value, kept_small}
use Rattle.modular_st.proofs.conjugates.kept_conjugate.Goals as goal

pub returns-clause-value : goal.returns-clause-value
returns-clause-value g c =
    let k = g.row.K in
    kept_value k c.args.simples.now c.args.i c.args.pair (cyclotomic_value k c.whole.result.coefficients) (cyclotomic_value k c.in-Some.value.coefficients)
    (cyclotomic_value k c.in-Some-try_mul.weighted.coefficients) c.whole.ensures.whole c.in-Some.ensures.forms.stands c.in-Some-try_mul.ensures.value
    c.small_terms.result c.small_terms.ensures.value

pub returns-clause-small : goal.returns-clause-small
returns-clause-small g c =
    let k = g.row.K in
    kept_small k c.args.simples.now c.args.i c.args.pair (cyclotomic_value k c.whole.result.coefficients) (cyclotomic_value k c.in-Some.value.coefficients)
    (cyclotomic_value k c.in-Some-try_mul.weighted.coefficients) c.whole.ensures.whole c.in-Some.ensures.forms.stands c.in-Some-try_mul.ensures.value
    c.order-order.ensures.conductor c.small_terms.result c.small_terms.ensures.value c.small_terms.ensures.small
