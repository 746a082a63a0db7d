use Rattle.modular_st.proofs.Names.{ℕ, ◌≡◌, ◌+◌, ◌*◌, ◌/◌, ◌%◌, ◌∷◌, [], List, IfSome, arith, ap, sym, ◌∙◌, length, subst, length-append, Vec, representatives, Monomial, count, AllAt, IsKeptRow}
use Rattle.modular_st.proofs.AllAts.{none_at, one_more_at}
use Rattle.modular_st.proofs.conjugates.kept_rows.Goals as goal

pub loop-q-init : goal.loop-q-init
loop-q-init g c =
    let r = length (representatives c.args.simples.now.cocycle.group) in
    let holds : ℕ → Vec (List Monomial) → Type 0 = λ q row. IsKeptRow g.row.K c.args.simples.now c.args.pairs.now (q / r) (q % r) row.items in
    (ap length c.new-rows.ensures.items, none_at holds c.new-rows.result.items c.new-rows.ensures.items)

pub loop-q-preserved : goal.loop-q-preserved
loop-q-preserved g c =
    let s = c.args.simples.now in
    let r = length (representatives s.cocycle.group) in
    let q = c.loop-q.q in
    let holds : ℕ → Vec (List Monomial) → Type 0 = λ q row. IsKeptRow g.row.K s c.args.pairs.now (q / r) (q % r) row.items in
    let classes : c.count-classes.result ≡ r = c.count-classes.ensures.count ∙ ap (λ t. length (representatives t)) c.classes.ensures.classes in
    let n = c.count-classes.result in
    let made = subst (λ o. IfSome o (λ row. IsKeptRow g.row.K s c.args.pairs.now (q / n) (q % n) row.items)) c.in-Some.is c.in_ok-row.ensures.row in
    let here : holds q c.in-Some.row = subst (λ m. IsKeptRow g.row.K s c.args.pairs.now (q / m) (q % m) c.in-Some.row.items) classes made in (
      ap length c.in_ok-push.ensures.items ∙ length-append c.loop-q.rows.items (c.in-Some.row ∷ []) ∙ ap (λ m. m + 1) c.loop-q.invariant.0,
      subst (AllAt holds) (sym c.in_ok-push.ensures.items)
          (one_more_at holds c.loop-q.rows.items q c.in-Some.row c.loop-q.invariant.0 c.loop-q.invariant.1 here),
    )

pub returns : goal.returns
returns g c =
    let s = c.args.simples.now in
    let classes = c.count-classes.ensures.count ∙ ap (λ t. length (representatives t)) c.classes.ensures.classes in
    record {
      rows = record {
        count_is = omega (arith, c.loop-q.invariant.0, c.loop-q-test.false, c.loop-q.auto) ∙ ap (λ m. m * c.count-classes.result) c.count.ensures.count
            ∙ ap (λ n. count g.row.K s * n) classes;
        kept = c.loop-q.invariant.1;
      };
    }
