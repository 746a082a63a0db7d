use Rattle.char_lift.proofs.Names.{◌≡◌, ◌+◌, ◌≤◌, sym, ap, ◌∙◌, arith, lit<, slice_index, multiple, sum_zero, cyclotomic_ring, cyclotomic_value, root, array_of, sum_of}
use Rattle.qd_ring.proofs.CycSums.{array-of_value}
use Rattle.char_lift.proofs.SumLaws.{sum-more}
use Rattle.char_lift.proofs.ValueLaws.{first_copies, copies_next, copies_size, sum-part, multiplicities_are}
use Rattle.char_lift.proofs.value.with_multiplicities.Goals as goal

pub loop-i-init : goal.loop-i-init
loop-i-init g c =
    let k = g.row.K in
    c.zero-value.ensures ∙ sym (sum_zero (cyclotomic_ring k) (λ i. multiple (cyclotomic_ring k) (slice_index c.args.multiplicities.now i) (root k i)))

pub plus_copies-value-requires : goal.plus_copies-value-requires
plus_copies-value-requires g c =
    let k = g.row.K in
    let counts = slice_index c.args.multiplicities.now in
    let i = c.loop-i.i in
    let so_far = copies_size k c.requires.conductor i counts (cyclotomic_value k c.loop-i.value.coefficients) c.loop-i.invariant in
    let all : sum_of (i + 1) counts ≤ sum_of k counts = sum-part (i + 1) k counts (omega (arith, c.loop-i-test.true)) in
    (lit< tt, (c.requires.conductor, omega (arith, so_far, c.at.ensures.number, sum-more i counts, all, c.requires.few)))

pub loop-i-preserved : goal.loop-i-preserved
loop-i-preserved g c =
    let k = g.row.K in
    copies_next k c.loop-i.i (slice_index c.args.multiplicities.now) (cyclotomic_value k c.loop-i.value.coefficients) (cyclotomic_value k c.plus_copies-value.result.coefficients)
    c.at.result c.loop-i.invariant c.at.ensures.number c.plus_copies-value.ensures.sum

pub returns : goal.returns
returns g c =
    let k = g.row.K in
    let counts = slice_index c.args.multiplicities.now in
    let ended : c.loop-i.i ≡ k = omega (arith, c.loop-i-test.false, c.loop-i.auto.i-end) in
    record {
      value =
          array-of_value k c.requires.conductor c.loop-i.value.coefficients c.loop-i.value.array
          ∙ ap array_of (c.loop-i.invariant ∙ ap (λ n. first_copies k n counts) ended ∙ multiplicities_are k counts);
    }
