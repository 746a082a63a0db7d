use Rattle.std.proofs.Common.{◌≡◌, ◌*◌, ◌++◌, ◌∷◌, [], length, sym, ap, ap₂, ◌∙◌, arith}
use Rattle.pair_orbits.proofs.Fronts.{front, front_none, front_more, front_same, front_all, front_few, square_small}
use Rattle.pair_orbits.proofs.listing.commuting_pairs.Goals as goal
use Rattle.pair_orbits.proofs.listing.commuting_pairs.Goals.{then-is_listed+in_ok-push, else-is_listed}

pub loop-p-init : goal.loop-p-init
loop-p-init c = c.empty-pairs.ensures.empty ∙ sym (front_none c.args.group.now)

pub push-requires : goal.push-requires
push-requires c =
    let n = c.args.group.now.order in
    let few = front_few c.args.group.now c.loop-p.p in
    let small = square_small c.order-order.result (omega (arith, c.order-order.ensures.order, c.order-order.ensures.small.to_sixty)) in
    record { room = omega (arith, few, small, ap length c.loop-p.invariant, c.loop-p-test.true) }

pub loop-p-preserved : goal.loop-p-preserved
loop-p-preserved c = elim c.if-is_listed.branch [
  | then-is_listed+in_ok-push w ↦
      let t = c.args.group.now in
      w.pairs-is ∙ w.in_ok-push.ensures.added
      ∙ ap₂ (λ xs x. xs ++ x ∷ []) c.loop-p.invariant w.weighted_pair.ensures.pair
      ∙ front_more t c.loop-p.p (sym c.is_listed.ensures.listed ∙ w.if-is_listed.true)
  | else-is_listed w ↦
      w.pairs-is ∙ c.loop-p.invariant ∙ front_same c.args.group.now c.loop-p.p (sym c.is_listed.ensures.listed ∙ w.if-is_listed.false)
]

pub returns : goal.returns
returns c =
    let t = c.args.group.now in
    let all : c.loop-p.p ≡ c.order-order.result * c.order-order.result = omega (arith, c.loop-p-test.false, c.loop-p.auto) in
    record { pairs = c.loop-p.invariant ∙ ap (front t) (all ∙ ap (λ n. n * n) c.order-order.ensures.order) ∙ front_all t }
