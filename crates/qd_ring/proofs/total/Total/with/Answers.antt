use Rattle.qd_ring.proofs.Names.{ap, sym, ◌∙◌, subst, arith, ◌+◌, ◌<◌, ◌≤◌, ◌≡◌, value_size, greatest_magnitude, value_sum, cyclotomic_value, Forms, IsTotal}
use Rattle.qd_ring.proofs.TotalLaws.{total_more, total_misses, total_unfit, total_great}
use Rattle.qd_ring.proofs.total.Total.with.Goals as goal

pub returns-in_default-clause-overflow : goal.returns-in_default-clause-overflow
returns-in_default-clause-overflow g c = λ term i n inside total formed.
    total_misses term i n inside (sym (subst (Forms (term i)) c.in_default.is formed).there)

pub returns-in_default-checked_add-clause-overflow : goal.returns-in_default-checked_add-clause-overflow
returns-in_default-checked_add-clause-overflow g c = λ term i n inside total formed.
    let there = subst (Forms (term i)) c.in-Some.is formed in
    total_great term i n (cyclotomic_value g.row.K c.args.self.sum.coefficients) c.args.self.sizes (cyclotomic_value g.row.K c.in-Some.next.coefficients) inside total there.stands
    (subst (λ size. greatest_magnitude < c.args.self.sizes + size) c.size.ensures (omega (arith, c.in_default-checked_add.ensures)))

pub returns-then-sizes-gt-GREATEST-clause-overflow : goal.returns-then-sizes-gt-GREATEST-clause-overflow
returns-then-sizes-gt-GREATEST-clause-overflow g c = λ term i n inside total formed.
    let there = subst (Forms (term i)) c.in-Some.is formed in
    total_great term i n (cyclotomic_value g.row.K c.args.self.sum.coefficients) c.args.self.sizes (cyclotomic_value g.row.K c.in-Some.next.coefficients) inside total there.stands
    (subst (λ size. greatest_magnitude < c.args.self.sizes + size) c.size.ensures (omega (arith, c.in-Some-checked_add.ensures, c.if-sizes-gt-GREATEST.true)))

pub returns-in-Some-try_add-clause-more : goal.returns-in-Some-try_add-clause-more
returns-in-Some-try_add-clause-more g c = λ term i total formed.
    let there = subst (Forms (term i)) c.in-Some.is formed in
    let u = cyclotomic_value g.row.K c.in-Some.next.coefficients in
    let sizes : c.in-Some-checked_add.sizes ≡ c.args.self.sizes + value_size u = c.in-Some-checked_add.ensures.1 ∙ ap (λ size. c.args.self.sizes + size) c.size.ensures in
    rw c.in-Some-try_add.ensures.value
    (subst (λ size. IsTotal term (i + 1) (value_sum (cyclotomic_value g.row.K c.args.self.sum.coefficients) u) size) (sym sizes)
    (total_more term i (cyclotomic_value g.row.K c.args.self.sum.coefficients) c.args.self.sizes u total (sym there.there) there.stands
    (subst (λ size. size ≤ greatest_magnitude) sizes (omega (arith, c.if-sizes-gt-GREATEST.false)))))

pub returns-in-None-clause-overflow : goal.returns-in-None-clause-overflow
returns-in-None-clause-overflow g c = λ term i n inside total formed.
    let there = subst (Forms (term i)) c.in-Some.is formed in
    total_unfit term i n (cyclotomic_value g.row.K c.args.self.sum.coefficients) c.args.self.sizes (cyclotomic_value g.row.K c.in-Some.next.coefficients) inside total there.stands
    (sym c.in-None.ensures.fits)
