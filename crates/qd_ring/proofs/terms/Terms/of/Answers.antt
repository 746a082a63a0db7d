-- The coefficients that aren't 0 stand for the value.
use Rattle.qd_ring.proofs.Names.{◌≡◌, ◌+◌, ◌<◌, suc, length, take, get_or, ap, sym, ◌∙◌, arith, nat_abs, pos, ap₂, add-one, cyclotomic, phi_of, value_sum, value_multiple, cyclotomic_value, root, value_size, reduction_length, total_of, array_length, value-front, size-value, conductor_bounds, value_of_terms, total_of_terms, value_of-nil}
use Rattle.qd_ring.proofs.BufferLaws.{read_128, size_at, value-take_suc}
use Rattle.qd_ring.proofs.SpreadLaws.{total-take, total-take_suc}
use Rattle.qd_ring.proofs.ProductLaws.{total-zeros}
use Rattle.qd_ring.proofs.CycLaws.{small_means, small_total, total_bound}
use Rattle.qd_ring.proofs.SparseLaws.{total-none, value-none}
use Rattle.qd_ring.proofs.terms.Terms.of.Goals as goal

pub loop-power-init : goal.loop-power-init
loop-power-init g c =
    let empty = c.new-terms.ensures in
    record {
      few = omega (arith, ap length empty);
      powers = λ i d h. absurd (omega (arith, h, ap length empty));
      value = ap (value_of_terms g.row.K) empty ∙ value-none g.row.K ∙ sym (value_of-nil (cyclotomic g.row.K));
      total = ap total_of_terms empty ∙ total-none ∙ sym (total-zeros 0);
      sum = sym (total-zeros 0);
    }

pub overflow_add-total : goal.overflow_add-total
overflow_add-total g c =
    let a = c.args.v.now in
    let xs = a.coefficients in
    let p = c.loop-power.power in
    let inside : p < length xs =
    omega (arith, array_length g.row.K a.conductor xs a.array, c.loop-power-test.true, ap length c.reduction.ensures, reduction_length g.row.K a.conductor, (conductor_bounds g.row.K a.conductor).2) in
    let read = read_128 (get_or xs p (pos 0)) (omega (arith, size_at xs p, small_means xs a.small)) in
    record {
      fits = omega
          (arith, c.loop-power.invariant.sum, c.unsigned_abs-total.ensures.value, ap nat_abs read, total-take_suc xs p inside, total-take xs (suc p), small_total g.row.K a.conductor xs a.array a.small);
    }

pub loop-power-preserved : goal.loop-power-preserved
loop-power-preserved g c =
    let k = g.row.K in
    let a = c.args.v.now in
    let xs = a.coefficients in
    let p = c.loop-power.power in
    let inside : p < length xs =
    omega (arith, array_length k a.conductor xs a.array, c.loop-power-test.true, ap length c.reduction.ensures, reduction_length k a.conductor, (conductor_bounds k a.conductor).2) in
    let read = read_128 (get_or xs p (pos 0)) (omega (arith, size_at xs p, small_means xs a.small)) in
    let more : total_of (take (p + 1) xs) ≡ total_of (take p xs) + nat_abs (get_or xs p (pos 0)) =
    ap (λ n. total_of (take n xs)) (add-one p) ∙ total-take_suc xs p inside in
    record {
      few = omega (arith, c.push_term.ensures.few, c.loop-power.invariant.few);
      powers = c.push_term.ensures.powers k
          (omega (arith, c.loop-power-test.true, ap length c.reduction.ensures, reduction_length k a.conductor, (conductor_bounds k a.conductor).1)) c.loop-power.invariant.powers;
      value = c.push_term.ensures.value k
          ∙ ap₂ (λ u z. value_sum u (value_multiple z (root k p))) c.loop-power.invariant.value read
          ∙ sym (value-take_suc (cyclotomic k) xs p inside)
          ∙ ap (λ n. cyclotomic_value k (take n xs)) (sym (add-one p));
      total = omega (arith, c.push_term.ensures.total, ap nat_abs read, c.loop-power.invariant.total, more);
      sum = omega (arith, c.unsigned_abs-total.ensures.value, ap nat_abs read, c.loop-power.invariant.sum, more);
    }

pub invariant_of-result : goal.invariant_of-result
invariant_of-result g c =
    let k = g.row.K in
    let a = c.args.v.now in
    let xs = a.coefficients in
    let p = c.loop-power.power in
    let ended : p ≡ phi_of k = omega (arith, c.loop-power-test.false, c.loop-power.auto.power-end, ap length c.reduction.ensures, reduction_length k a.conductor) in
    let value : value_of_terms k c.loop-power.terms.items ≡ cyclotomic_value k xs =
    c.loop-power.invariant.value ∙ ap (λ n. cyclotomic_value k (take n xs)) ended ∙ value-front k a.conductor xs a.array in
    let size = size-value k a.conductor xs a.array in
    record {
      conductor = a.conductor;
      powers = c.loop-power.invariant.powers;
      size_is = c.size.ensures ∙ ap (λ u. value_size u) (sym value);
      small = omega (arith, c.size.ensures, size, small_means xs a.small);
      total_is = c.loop-power.invariant.sum ∙ sym c.loop-power.invariant.total;
      spread = omega (arith, c.loop-power.invariant.sum, total-take xs p, total_bound k a.conductor xs a.array, c.size.ensures, size);
    }

pub returns : goal.returns
returns g c =
    let k = g.row.K in
    let a = c.args.v.now in
    let ended : c.loop-power.power ≡ phi_of k =
    omega (arith, c.loop-power-test.false, c.loop-power.auto.power-end, ap length c.reduction.ensures, reduction_length k a.conductor) in
    c.loop-power.invariant.value ∙ ap (λ n. cyclotomic_value k (take n a.coefficients)) ended ∙ value-front k a.conductor a.coefficients a.array
