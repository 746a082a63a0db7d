use Rattle.dixon_split.proofs.Names.{◌∙◌, ◌/◌, ◌<◌, [], map, length, refl, ap, sym, subst, get_or-map}
use Rattle.dixon_split.proofs.ClassSums.{two_digits}
use Rattle.dixon_split.proofs.Values.{values_more}
use Rattle.dixon_split.proofs.multipliers.values.Goals as goal

pub loop-n-preserved : goal.loop-n-preserved
loop-n-preserved c =
    let rank = c.args.algebra.now.rank in
    let inside : c.loop-n.n / rank < length c.args.pieces.now = subst (λ m. c.loop-n.n / rank < m) (sym c.requires.count) (two_digits rank rank rank c.loop-n.n refl c.loop-n-test.true).1 in
    values_more c.args.algebra.now (map (λ piece. piece.items) c.args.pieces.now) c.loop-n.n c.value_of-value.result c.loop-n.values c.push.new.self c.as_slice-piece.result.now
    c.loop-n.invariant c.in_ok-push.ensures.added c.value_of-value.ensures.below
    (c.as_slice-piece.ensures.value ∙ ap (λ piece. piece.items) c.index-pieces-n.is ∙ sym (get_or-map (λ piece. piece.items) c.args.pieces.now (c.loop-n.n / rank) c.index-pieces-n.result [] inside))
    c.value_of-value.ensures.acts
