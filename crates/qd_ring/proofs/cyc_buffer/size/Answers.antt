-- One more number.
use Rattle.qd_ring.proofs.Names.{◌≡◌, ◌+◌, ap, arith, add-one, drop, drop-cons, drop_all, get_or, max, nat_abs, pos, rules, to_z-of_z, w128, SFits, size-cons, size-nil, size_of}
use Rattle.qd_ring.proofs.cyc_buffer.size.Goals as goal

pub loop-a-preserved : goal.loop-a-preserved
loop-a-preserved c =
    let xs = c.args.coefficients.now in
    let i = c.loop-a.a-index in
    let fits : SFits w128 (get_or xs i (pos 0)) = search rules in
    let rest : size_of (drop i xs) ≡ max (nat_abs (get_or xs i (pos 0))) (size_of (drop (i + 1) xs)) =
    rw (drop-cons xs i (pos 0) c.loop-a-test.true, add-one) (size-cons _ _) in
    omega (arith, rest, ap nat_abs (to_z-of_z w128 (get_or xs i (pos 0)) fits))

pub returns : goal.returns
returns c =
    let rest = ap size_of (drop_all c.loop-a.a-index c.args.coefficients.now (omega arith)) in
    omega (arith, c.loop-a.invariant, rest, size-nil)
