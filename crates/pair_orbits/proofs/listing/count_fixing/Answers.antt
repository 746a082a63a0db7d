use Rattle.pair_orbits.proofs.Names.{◌≡◌, ◌==◌, ◌+◌, ℕ, Bool, true, false, length, sym, ap, ◌∙◌, arith, eq-eqb, ne_eqb, ◌∷◌, [], length-append, passing_below, passing_below-zero, passing_below-passes, passing_below-fails, length-passing_below, conjugate_pair, fixing}
use Rattle.pair_orbits.proofs.listing.count_fixing.Goals as goal
use Rattle.pair_orbits.proofs.listing.count_fixing.Goals.{then-conjugate_pair-p, else-conjugate_pair-p}

pub loop-c-init : goal.loop-c-init
loop-c-init c = sym (ap length (passing_below-zero (λ x. conjugate_pair c.args.group.now x c.args.p == c.args.p)))

pub overflow_add-count : goal.overflow_add-count
overflow_add-count c =
    let most = length-passing_below c.loop-c.c (λ x. conjugate_pair c.args.group.now x c.args.p == c.args.p) in
    record { fits = omega (arith, most, c.loop-c.invariant, c.loop-c-test.true, c.order-c-end.ensures.order, c.order-c-end.ensures.small.to_sixty) }

pub loop-c-preserved : goal.loop-c-preserved
loop-c-preserved c = elim c.if-conjugate_pair-p.branch [
  | then-conjugate_pair-p w ↦
      let test : ℕ → Bool = λ x. conjugate_pair c.args.group.now x c.args.p == c.args.p in
      let passes : test c.loop-c.c ≡ true = eq-eqb _ _ (sym c.conjugate_pair.ensures.pair ∙ w.if-conjugate_pair-p.true) in
      let more = ap length (passing_below-passes c.loop-c.c test passes) in
      let one = length-append (passing_below c.loop-c.c test) (c.loop-c.c ∷ []) in
      w.count-is ∙ ap (λ n. n + 1) c.loop-c.invariant ∙ sym (more ∙ one)
  | else-conjugate_pair-p w ↦
      let test : ℕ → Bool = λ x. conjugate_pair c.args.group.now x c.args.p == c.args.p in
      let fails : test c.loop-c.c ≡ false = ne_eqb _ _ (λ e. w.if-conjugate_pair-p.false (c.conjugate_pair.ensures.pair ∙ e)) in
      w.count-is ∙ c.loop-c.invariant ∙ sym (ap length (passing_below-fails c.loop-c.c test fails))
]

pub returns : goal.returns
unfolding fixing
returns c =
    let test : ℕ → Bool = λ x. conjugate_pair c.args.group.now x c.args.p == c.args.p in
    let all : c.loop-c.c ≡ c.args.group.now.order = omega (arith, c.loop-c-test.false, c.loop-c.auto, c.order-c-end.ensures.order) in
    record { count = c.loop-c.invariant ∙ ap (λ n. length (passing_below n test)) all }
