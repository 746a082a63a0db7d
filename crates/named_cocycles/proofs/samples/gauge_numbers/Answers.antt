use Rattle.named_cocycles.proofs.Names.{◌≡◌, length, map, sym, ap, ◌∙◌, arith, length-append, lit<, range_with_len, mod-lt, Table, has_identity, gauge_number}
use Rattle.named_cocycles.proofs.Generator.{number-start, number_step, exponent_step, numbers_more}
use Rattle.named_cocycles.proofs.samples.gauge_numbers.Goals as goal

pub loop-i-init : goal.loop-i-init
loop-i-init c = record {
  count = ap length c.empty-numbers.ensures.empty;
  number_below = mod-lt c.args.s (lit< tt);
  number = sym (number-start c.args.w.now.group c.args.s);
  kept = c.empty-numbers.ensures.empty;
}

pub loop-i-preserved : goal.loop-i-preserved
loop-i-preserved c =
    let w = c.args.w.now in
    let s = c.args.s in
    let i = c.loop-i.i in
    let b = c.has_identity-at_identity.result in
    let is : b ≡ has_identity w.group i = c.has_identity-at_identity.ensures.identity ∙ ap (λ (t : Table). has_identity t i) c.group-in-loop-i.ensures.group in
    let number = number_step w.group s i c.loop-i.v c.number_after-v.result b is c.loop-i.invariant.number c.number_after-v.ensures.number in
    record {
      count = rw c.in_ok-push.ensures.added (simp length-append (omega (arith, c.loop-i.invariant.count)));
      number_below = c.number_after-v.ensures.number_below;
      number = number;
      kept = numbers_more w s i c.gauge_number.result c.loop-i.numbers c.push.new.self c.in_ok-push.ensures.added c.loop-i.invariant.kept
          (exponent_step w s i c.number_after-v.result c.roots-roots.result c.gauge_number.result b is number c.roots-roots.ensures.roots c.gauge_number.ensures.exponent);
    }
