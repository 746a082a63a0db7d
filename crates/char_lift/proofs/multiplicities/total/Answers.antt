use Rattle.char_lift.proofs.Names.{◌≡◌, ◌+◌, sym, ap, ◌∙◌, length, arith, slice_index, sum_of}
use Rattle.char_lift.proofs.SumLaws.{sum-zero, sum-more}
use Rattle.char_lift.proofs.multiplicities.total.Goals as goal

pub loop-i-init : goal.loop-i-init
loop-i-init c = record { so_far = sym (sum-zero (slice_index c.args.numbers.now)); small = omega arith }

pub overflow_add-sum : goal.overflow_add-sum
overflow_add-sum c =
    record {
      fits = omega
          (arith, c.loop-i.invariant.small, c.requires.few, c.loop-i-test.true, c.len-i-end.ensures.count, c.at-sum.ensures.number, c.requires.small c.loop-i.i (omega (arith, c.loop-i-test.true, c.len-i-end.ensures.count)));
    }

pub loop-i-preserved : goal.loop-i-preserved
loop-i-preserved c = record {
  so_far = ap (λ a. c.loop-i.sum + a) c.at-sum.ensures.number ∙ ap (λ a. a + slice_index c.args.numbers.now c.loop-i.i) c.loop-i.invariant.so_far ∙ sym (sum-more c.loop-i.i (slice_index c.args.numbers.now));
  small = omega
      (arith, c.loop-i.invariant.small, c.at-sum.ensures.number, c.requires.small c.loop-i.i (omega (arith, c.loop-i-test.true, c.len-i-end.ensures.count)));
}

pub returns : goal.returns
returns c =
    let ended : c.loop-i.i ≡ length c.args.numbers.now = omega (arith, c.loop-i-test.false, c.loop-i.auto.i-end, c.len-i-end.ensures.count) in
    record { total = c.loop-i.invariant.so_far ∙ ap (λ n. sum_of n (slice_index c.args.numbers.now)) ended }
