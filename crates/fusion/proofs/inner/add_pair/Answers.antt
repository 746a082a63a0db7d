use Rattle.fusion.proofs.Names.{◌≡◌, List, Option, sym, ap, ap₂, ◌∙◌, subst, IfSome, cyclotomic, value_sum, value_product, Monomial, value_of_terms, folded_value, mod-eq_of_lt, value_or_nought}
use Rattle.cyclotomic.proofs.Checks.{conductor_positive}
use Rattle.fusion.proofs.TensorSums.{nought_product, left_out, turned_none}
use Rattle.fusion.proofs.inner.add_pair.Goals as goal

pub returns-in_default : goal.returns-in_default
returns-in_default g c =
    let k = g.row.K in
    let old = folded_value k c.args.folded.now in
    record {
      value = λ u is there. left_out k old (value_product (cyclotomic k) (value_or_nought k c.args.tensor.now) u)
          (nought_product k (value_or_nought k c.args.tensor.now) u (ap (value_or_nought k) c.in_default.is));
    }

pub returns-in-Some-conjugate : goal.returns-in-Some-conjugate
returns-in-Some-conjugate g c =
    let k = g.row.K in
    let one = c.new.ensures ∙ mod-eq_of_lt (conductor_positive k c.requires.conductor) in
    let tensor = ap (value_of_terms k) c.deref.ensures ∙ sym (ap (value_or_nought k) c.in-Some.is) in
    record {
      value = λ u is there.
          let conjugate = subst (λ (o : Option (List Monomial)). IfSome o (λ terms. value_of_terms k terms ≡ u)) c.in-Some-conjugate.is is in
          c.add_product.ensures.value there
          ∙ ap (value_sum (folded_value k c.args.folded.now)) (turned_none k c.new.result.exponent _ _ one ∙ ap₂ (value_product (cyclotomic k)) tensor conjugate);
    }
