use Rattle.dixon_split.proofs.Names.{rules, subst, sym, ◌<◌, ◌≡◌, ◌*◌, ◌%◌, modulus_positive}
use Rattle.dixon_split.proofs.Quotients.{quotient_below, quotient_divides}
use Rattle.dixon_split.proofs.multipliers.quotient.Goals as goal

pub returns-clause-below : goal.returns-clause-below
returns-clause-below c =
    subst (λ v. v < c.args.q) (sym c.unwrap_or.ensures)
    (quotient_below c.args.q c.args.product c.args.factor (modulus_positive c.args.q c.requires.modulus) c.first_below-least.result
    (search rules))

pub returns-clause-quotient : goal.returns-clause-quotient
returns-clause-quotient c = λ v below h.
    subst (λ w. c.args.product ≡ (w * c.args.factor) % c.args.q) (sym c.unwrap_or.ensures)
    (quotient_divides c.args.q c.args.product c.args.factor c.first_below-least.result (search rules) v below h)
