use Rattle.modular_st.proofs.Names.{arith, map, subst, listed_pairs, exchanged, IsKeptRow}
use Rattle.modular_st.proofs.KeptSums.{same_width, numerators_are}
use Rattle.modular_st.proofs.kept_sum.folded_sum.Goals as goal

pub dot_product-requires : goal.dot_product-requires
dot_product-requires g c =
    let k = g.row.K in
    let s = c.args.simples.now in
    let listed = listed_pairs s.cocycle.group in
    let left = c.row_at-left.result.now.items in
    let right = c.row_at-right.result.now.items in
    let of_left = subst (λ d. IsKeptRow k s listed c.args.i d left) c.class.ensures.class (c.row_at-left.ensures.row listed c.requires.kept.at_pairs) in
    let of_right = subst (λ d. IsKeptRow k s (map exchanged listed) c.args.j d right) c.class-2.ensures.class (c.row_at-right.ensures.row (map exchanged listed) c.requires.kept.at_exchanged) in
    (omega arith, (omega arith, (c.count-count.ensures.simples.conductor, same_width k s c.args.i c.args.j left right of_left of_right)))

pub returns : goal.returns
returns g c =
    let k = g.row.K in
    let s = c.args.simples.now in
    let listed = listed_pairs s.cocycle.group in
    let left = c.row_at-left.result.now.items in
    let right = c.row_at-right.result.now.items in
    let of_left = subst (λ d. IsKeptRow k s listed c.args.i d left) c.class.ensures.class (c.row_at-left.ensures.row listed c.requires.kept.at_pairs) in
    let of_right = subst (λ d. IsKeptRow k s (map exchanged listed) c.args.j d right) c.class-2.ensures.class (c.row_at-right.ensures.row (map exchanged listed) c.requires.kept.at_exchanged) in
    record {
      forms = numerators_are k s c.args.i c.args.j left right of_left of_right c.count-count.ensures.simples c.args.conjugates.now c.requires.kept
          c.requires.i_below c.requires.j_below c.dot_product.result c.dot_product.ensures.forms;
    }
