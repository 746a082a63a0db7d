use Rattle.char_lift.proofs.Names.{◌≡◌, ◌≤◌, sym, ap, ◌∙◌, arith, cyclotomic_value, root, value_sum, value_size, multiple, cyclotomic_ring}
use Rattle.cyclotomic.proofs.Inverses.{root_modulo}
use Rattle.char_lift.proofs.ValueLaws.{copies_none, copies_more, size_more, small_fits, there_not_none}
use Rattle.char_lift.proofs.value.plus_copies.Goals as goal

pub loop-copy-init : goal.loop-copy-init
loop-copy-init g c = record {
  so_far = copies_none g.row.K (cyclotomic_value g.row.K c.args.value.now.coefficients) (root g.row.K c.args.e);
  small = omega arith;
}

pub unreachable-requires : goal.unreachable-requires
unreachable-requires g c =
    let k = g.row.K in
    let now = cyclotomic_value k c.loop-copy.sum.coefficients in
    let copy = cyclotomic_value k c.from_root-copy.result.coefficients in
    let is : copy ≡ root k c.args.e = c.from_root-copy.ensures ∙ ap (root k) c.new.ensures ∙ sym (root_modulo k c.requires.conductor c.args.e) in
    let small : value_size (value_sum now copy) ≤ 60 =
    omega (arith, size_more k c.requires.conductor now copy c.args.e is, c.loop-copy.invariant.small, c.loop-copy-test.true, c.requires.small) in
    there_not_none c.try_add.result _ c.try_add.ensures.fits (small_fits k c.requires.conductor (value_sum now copy) small) c.in_default.is

pub loop-copy-preserved : goal.loop-copy-preserved
loop-copy-preserved g c =
    let k = g.row.K in
    let now = cyclotomic_value k c.loop-copy.sum.coefficients in
    let copy = cyclotomic_value k c.from_root-copy.result.coefficients in
    let next = cyclotomic_value k c.in-Some.next.coefficients in
    let is : copy ≡ root k c.args.e = c.from_root-copy.ensures ∙ ap (root k) c.new.ensures ∙ sym (root_modulo k c.requires.conductor c.args.e) in
    let added : next ≡ value_sum now copy = c.in-Some.ensures.value in
    record {
      so_far = copies_more k (cyclotomic_value k c.args.value.now.coefficients) now next (root k c.args.e) c.loop-copy._copy c.loop-copy.invariant.so_far (added ∙ ap (value_sum now) is);
      small = omega (arith, ap (λ v. value_size v) added, size_more k c.requires.conductor now copy c.args.e is, c.loop-copy.invariant.small);
    }

pub returns : goal.returns
returns g c =
    let k = g.row.K in
    let ended : c.loop-copy._copy ≡ c.args.count = omega (arith, c.loop-copy-test.false, c.loop-copy.auto._copy-end) in
    record {
      sum = c.loop-copy.invariant.so_far ∙ ap (λ n. value_sum (cyclotomic_value k c.args.value.now.coefficients) (multiple (cyclotomic_ring k) n (root k c.args.e))) ended;
    }
