use Rattle.fusion.proofs.Names.{◌≡◌, ℕ, ◌+◌, ◌<◌, Some, sym, arith, count, quotient_at, fusion_number, triple}
use Rattle.fusion.proofs.Lists.{item_read}
use Rattle.fusion.proofs.Faults.{number_found}
use Rattle.fusion.proofs.Bounds.{number_small}
use Rattle.fusion.proofs.Fronts.{front_more, front_at}
use Rattle.fusion.proofs.web.add_pair.Goals as goal
use Rattle.fusion.proofs.web.add_pair.Given.{Over}
use Rattle.fusion.proofs.web.add_pair.Goals.{After-index}

-- the number that was read
number_is : (g : Over) (c : After-index g) → fusion_number g.row.K c.args.simples.now c.args.i c.args.j c.loop-l.l ≡ c.index.result.now
number_is g c =
    let k = g.row.K in
    let s = c.args.simples.now in
    let holds : ℕ → ℕ → Type 0 = λ l number. quotient_at k s c.args.i c.args.j l ≡ Some number in
    let inside : c.loop-l.l < count k s = omega (arith, c.loop-l-test.true, c.count-l-end.ensures.count) in
    number_found k s c.args.i c.args.j c.loop-l.l c.index.result.now
    (item_read holds (count k s) c.args.numbers.now.items c.loop-l.l c.index.result.now c.requires.numbers inside c.index.ensures)

pub overflow_cast-index : goal.overflow_cast-index
overflow_cast-index g c =
    let k = g.row.K in
    let s = c.args.simples.now in
    let inside : c.loop-l.l < count k s = omega (arith, c.loop-l-test.true, c.count-l-end.ensures.count) in
    let small = number_small k s c.count-l-end.ensures.simples c.order-order.ensures.small.to_sixty c.args.i c.args.j c.loop-l.l c.requires.i_below c.requires.j_below inside c.requires.whole in
    let number = number_is g (goal.at.overflow_cast-index g c).After-index in omega (arith, small, number)

pub loop-l-preserved : goal.loop-l-preserved
loop-l-preserved g c =
    let k = g.row.K in
    let s = c.args.simples.now in
    let inside : c.loop-l.l < count k s = omega (arith, c.loop-l-test.true, c.count-l-end.ensures.count) in
    let i = c.args.i in
    let j = c.args.j in
    let l = c.loop-l.l in
    let one_more : triple (count k s) i j l + 1 ≡ triple (count k s) i j (l + 1) = omega arith in
    front_at k s c.add_count.new.web (triple (count k s) i j l + 1) (triple (count k s) i j (l + 1)) one_more
    (front_more k s c.loop-l.web c.add_count.new.web i j l c.index.result.now c.requires.j_below inside
    (sym (number_is g (goal.at.loop-l-preserved g c).After-index)) c.loop-l.invariant c.in_ok-add_count.ensures.counts)
