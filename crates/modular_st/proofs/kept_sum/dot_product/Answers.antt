use Rattle.modular_st.proofs.Names.{◌≡◌, ◌<◌, [], length, get_or, arith, sym, ◌∙◌, subst, given, IsTurnedProduct, value_of_terms, mod-eq_of_lt, get_or_default, product_at}
use Rattle.cyclotomic.proofs.Checks.{conductor_positive}
use Rattle.modular_st.proofs.KeptSums.{plain_product}
use Rattle.modular_st.proofs.kept_sum.dot_product.Goals as goal

pub loop-q-preserved : goal.loop-q-preserved
loop-q-preserved g c =
    let k = g.row.K in
    let left = c.args.left.now.items in
    let right = c.args.right.now.items in
    let q = c.loop-q.q in
    let a = c.index.result.now in
    let b = c.index-in-loop-q.result.now in
    let r = c.new.result.exponent in
    let none : r ≡ 0 = c.new.ensures ∙ mod-eq_of_lt (conductor_positive k c.requires.conductor) in
    let inside : q < length left = omega (arith, c.loop-q-test.true, c.len-q-end.ensures, c.args.left.now.ok.0) in
    let a_is : get_or left q [] ≡ a = get_or_default left q [] a inside ∙ sym c.index.ensures in
    let b_is : get_or right q [] ≡ b = get_or_default right q [] b (omega (arith, inside, c.requires.width)) ∙ sym c.index-in-loop-q.ensures in
    c.add_product.ensures.listed c.if-not-add_product.false (λ p. given k (product_at k left right p)) q c.loop-q.invariant
    (subst (λ x. IsTurnedProduct k (given k (product_at k left right q)) r (value_of_terms k x) (value_of_terms k b)) a_is
    (subst (λ y. IsTurnedProduct k (given k (product_at k left right q)) r (value_of_terms k (get_or left q [])) (value_of_terms k y)) b_is
    (plain_product k r (value_of_terms k (get_or left q [])) (value_of_terms k (get_or right q [])) none)))
