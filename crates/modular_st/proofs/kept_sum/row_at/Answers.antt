use Rattle.modular_st.proofs.Names.{◌≡◌, ◌+◌, ◌*◌, ◌≤◌, length, get_or, arith, ◌∙◌, ap, subst, mul-le-mul, representatives, count}
use Rattle.modular_st.proofs.Terms.{pair_below}
use Rattle.modular_st.proofs.KeptSums.{row_at_place}
use Rattle.modular_st.proofs.kept_sum.row_at.Goals as goal

pub overflow_mul-i : goal.overflow_mul-i
overflow_mul-i g c =
    let first : c.args.i ≤ 3600 = omega (arith, c.requires.i_below, c.count-count.ensures.count, c.count-count.ensures.few) in
    let second : c.count-classes.result ≤ 60 = omega (arith, c.count-classes.ensures.at_most_order, c.count-classes.ensures.small.to_sixty) in
    let most = mul-le-mul first second in
    record { fits = omega (arith, most) }

pub overflow_add-i : goal.overflow_add-i
overflow_add-i g c =
    let first : c.args.i ≤ 3600 = omega (arith, c.requires.i_below, c.count-count.ensures.count, c.count-count.ensures.few) in
    let second : c.count-classes.result ≤ 60 = omega (arith, c.count-classes.ensures.at_most_order, c.count-classes.ensures.small.to_sixty) in
    let classes = c.count-classes.ensures.count ∙ ap (λ t. length (representatives t)) c.classes.ensures.classes in
    let most = mul-le-mul first second in
    record { fits = omega (arith, most, c.requires.d_below, classes, second) }

pub index-requires : goal.index-requires
index-requires g c =
    let s = c.args.simples.now in
    let classes : c.count-classes.result ≡ length (representatives s.cocycle.group) = c.count-classes.ensures.count ∙ ap (λ t. length (representatives t)) c.classes.ensures.classes in
    let below = pair_below c.args.i (count g.row.K s) c.args.d (length (representatives s.cocycle.group)) c.requires.i_below c.requires.d_below in
    let same : c.args.i * c.count-classes.result ≡ c.args.i * length (representatives s.cocycle.group) = ap (λ r. c.args.i * r) classes in
    omega (arith, below, same, c.requires.count, c.args.rows.now.ok.0)

pub returns : goal.returns
returns g c =
    let s = c.args.simples.now in
    let rows = c.args.rows.now.items in
    let row = c.index.result.now in
    let classes : c.count-classes.result ≡ length (representatives s.cocycle.group) = c.count-classes.ensures.count ∙ ap (λ t. length (representatives t)) c.classes.ensures.classes in
    record {
      row = λ pairs kept.
          row_at_place g.row.K s pairs rows kept c.args.i c.args.d row c.requires.i_below c.requires.d_below
          (subst (λ r. row ≡ get_or rows (c.args.i * r + c.args.d) row) classes c.index.ensures);
    }
