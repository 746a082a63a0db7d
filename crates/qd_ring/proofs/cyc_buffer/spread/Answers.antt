-- Each coefficient adds its multiple of a power of x.
use Rattle.qd_ring.proofs.Names.{◌≡◌, ◌+◌, ◌^◌, ◌<◌, suc, take, get_or, ap, sym, subst, ◌∙◌, arith, nat_abs, pos, add-one, mod-lt, cyclotomic, value_sum, value_multiple, cyclotomic_value, root, sum_nought, conductor_positive, total_of, conductor_bounds}
use Rattle.qd_ring.proofs.BufferLaws.{read_128}
use Rattle.qd_ring.proofs.SpreadLaws.{spread_none, spread_step, place_start, place_next, total-take, total-take_suc}
use Rattle.qd_ring.proofs.cyc_buffer.spread.Goals as goal

pub loop-a-init : goal.loop-a-init
loop-a-init c =
    let old = cyclotomic_value c.args.k c.args.buffer.now in
    record {
      below = c.requires.start;
      place = place_start c.args.k c.args.start c.args.stride c.requires.start;
      value = sym (ap (value_sum old) (spread_none c.args.k c.requires.conductor c.args.start c.args.stride c.args.coefficients.now) ∙ sum_nought (cyclotomic c.args.k) old);
      total = omega arith;
    }

pub add_at-requires-clause-room : goal.add_at-requires-clause-room
add_at-requires-clause-room c =
    let xs = c.args.coefficients.now in
    let i = c.loop-a.a-index in
    let more = total-take_suc xs i c.loop-a-test.true in
    let most = total-take xs (suc i) in
    subst (λ z. total_of c.loop-a.buffer + nat_abs z < 2 ^ 126)
    (sym (read_128 (get_or xs i (pos 0)) (omega (arith, more, most, c.requires.room))))
    (omega (arith, more, most, c.requires.room, c.loop-a.invariant.total))

pub overflow_add-place : goal.overflow_add-place
overflow_add-place c =
    omega (arith, c.loop-a.invariant.below, c.requires.stride, (conductor_bounds c.args.k c.requires.conductor).0)

pub loop-a-preserved : goal.loop-a-preserved
loop-a-preserved c =
    let k = c.args.k in
    let xs = c.args.coefficients.now in
    let i = c.loop-a.a-index in
    let old = cyclotomic_value k c.args.buffer.now in
    let more = total-take_suc xs i c.loop-a-test.true in
    let most = total-take xs (suc i) in
    let read = read_128 (get_or xs i (pos 0)) (omega (arith, more, most, c.requires.room)) in
    let suc_is : total_of (take (i + 1) xs) ≡ total_of (take (suc i) xs) = ap (λ n. total_of (take n xs)) (add-one i) in
    let next : cyclotomic_value k c.add_at.new.buffer ≡ value_sum (cyclotomic_value k c.loop-a.buffer) (value_multiple (get_or xs i (pos 0)) (root k c.loop-a.place)) =
    c.add_at.ensures.value (cyclotomic k)
    ∙ ap (λ z. value_sum (cyclotomic_value k c.loop-a.buffer) (value_multiple z (root k c.loop-a.place))) read in
    record {
      below = mod-lt (c.loop-a.place + c.args.stride) (conductor_positive k c.requires.conductor);
      place = place_next k c.args.start c.args.stride i c.loop-a.place c.loop-a.invariant.place;
      value = spread_step k c.requires.conductor c.args.start c.args.stride xs old (cyclotomic_value k c.loop-a.buffer) (cyclotomic_value k c.add_at.new.buffer) i c.loop-a.place c.loop-a-test.true c.loop-a.invariant.place c.loop-a.invariant.value next;
      total = omega (arith, c.add_at.ensures.total, ap nat_abs read, more, suc_is, c.loop-a.invariant.total);
    }
