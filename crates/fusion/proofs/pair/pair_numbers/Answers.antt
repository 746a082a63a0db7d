use Rattle.fusion.proofs.Names.{◌≡◌, ℕ, Some, first-zero, first_none-step, quotient_at, sum_fault}
use Rattle.fusion.proofs.Lists.{none_at, one_more}
use Rattle.fusion.proofs.Faults.{no_fault}
use Rattle.fusion.proofs.pair.pair_numbers.Goals as goal

pub loop-l-init : goal.loop-l-init
loop-l-init g c =
    let k = g.row.K in
    let s = c.args.simples.now in
    let holds : ℕ → ℕ → Type 0 = λ r number. quotient_at k s c.args.i c.args.j r ≡ Some number in
    (none_at holds c.new-numbers.result.items c.new-numbers.ensures.items, first-zero (sum_fault k s c.args.i c.args.j))

pub loop-l-preserved : goal.loop-l-preserved
loop-l-preserved g c =
    let k = g.row.K in
    let s = c.args.simples.now in
    let i = c.args.i in
    let j = c.args.j in
    let l = c.loop-l.l in
    let holds : ℕ → ℕ → Type 0 = λ r number. quotient_at k s i j r ≡ Some number in (
      one_more holds l c.loop-l.numbers.items c.push.new.self.items c.in_ok-number.number c.in_ok-push.ensures.items c.loop-l.invariant.0 c.in_ok-number.ensures.number,
      first_none-step l (sum_fault k s i j) c.loop-l.invariant.1 (no_fault k s i j l c.in_ok-number.number c.in_ok-number.ensures.number),
    )
