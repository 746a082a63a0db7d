use Rattle.indicators.proofs.Names.{◌≡◌, ◌∙◌, ◌*◌, ◌%◌, ◌+◌, ◌-◌, ℕ, ap, subst, slice_index, ap₂, Forms, given, whole, multiplied, turned, quotient_exponent}
use Rattle.std.proofs.Math.Nat.{mod-mod}
use Rattle.indicators.proofs.FormedLaws.{whole_forms, product_forms, turned_forms}
use Rattle.indicators.proofs.numerator.term.Goals as goal

pub returns : goal.returns
returns g c =
    let k = g.row.K in
    let dims = c.args.dims.now in
    let twists = c.args.twists.now in
    let n = given k (whole k c.args.number) in
    let d = given k (whole k (slice_index dims c.args.i)) in
    let e = given k (whole k (slice_index dims c.args.j)) in
    let number = whole_forms k c.args.number c.whole.result c.whole.ensures.value in
    let left = whole_forms k (slice_index dims c.args.i) c.whole-2.result (c.whole-2.ensures.value ∙ ap (whole k) c.at-3.ensures.number) in
    let right = whole_forms k (slice_index dims c.args.j) c.whole-3.result (c.whole-3.ensures.value ∙ ap (whole k) c.at-4.ensures.number) in
    let first = product_forms k n d c.whole.result c.whole-2.result c.try_mul.result number left c.try_mul.ensures.fits c.try_mul.ensures.value in
    let first_is = subst (Forms (multiplied k n d)) (c.in_ok-try_mul.was {u = tt}) first in
    let second =
    product_forms k (multiplied k n d) e c.in_ok-try_mul.field-0 c.whole-3.result c.try_mul-2.result first_is right c.try_mul-2.ensures.fits c.try_mul-2.ensures.value in
    let second_is = subst (Forms (multiplied k (multiplied k n d) e)) (c.in_ok-try_mul-2.was {u = tt}) second in
    let quotient = c.quotient_exponent-exponent.ensures.exponent ∙ ap₂ (λ t u. quotient_exponent k c.args.m t u) c.at.ensures.number c.at-2.ensures.number in
    let exponent : c.new.result.exponent ≡ quotient_exponent k c.args.m (slice_index twists c.args.i) (slice_index twists c.args.j) =
    c.new.ensures ∙ ap (λ v. v % k) quotient ∙ mod-mod (c.args.m * (slice_index twists c.args.i + (k - slice_index twists c.args.j))) k in
    record {
      forms = subst (λ (v : ℕ). Forms (turned k v (multiplied k (multiplied k n d) e)) c.try_times.result) exponent
          (turned_forms k c.new.result.exponent (multiplied k (multiplied k n d) e) c.in_ok-try_mul-2.field-0 c.try_times.result second_is c.try_times.ensures.fits c.try_times.ensures.value);
    }
