use Rattle.fusion.proofs.Names.{◌≡◌, ◌/◌, ◌%◌, ◌∷◌, [], Some, ap, sym, ◌∙◌, pos, cyclotomic_value, natural_of}
use Rattle.fusion.proofs.Quotients.{read_back, quotient_found, quotient_rest, quotient_none, quotient_by, quotient_below}
use Rattle.fusion.proofs.quotient.whole_quotient.Goals as goal
use Rattle.fusion.proofs.quotient.whole_quotient.Given.{Over}
use Rattle.fusion.proofs.quotient.whole_quotient.Goals.{After-from-n}

-- the value is the number that was read
number_is : (g : Over) (c : After-from-n g) → cyclotomic_value g.row.K c.args.value.now.coefficients ≡ cyclotomic_value g.row.K (pos c.in-Some-natural.number ∷ [])
number_is g c =
    let k = g.row.K in
    let a = c.args.value.now in
    let is = c.in-Some.ensures.whole in
    let read = read_back k a.conductor a.coefficients a.array a.small c.in-Some.whole is in
    quotient_by k a.conductor c.args.n (cyclotomic_value k a.coefficients) c.in-Some.whole c.in-Some-natural.number
    (ap natural_of (sym read) ∙ sym c.natural.ensures.natural ∙ c.in-Some-natural.is) is

pub returns-in_default : goal.returns-in_default
returns-in_default g c =
    let a = c.args.value.now in record { quotient = sym (quotient_none g.row.K a.conductor c.args.n (cyclotomic_value g.row.K a.coefficients) c.in_default.ensures.none) }

pub returns-in_default-natural : goal.returns-in_default-natural
returns-in_default-natural g c =
    let k = g.row.K in
    let a = c.args.value.now in
    let is = c.in-Some.ensures.whole in
    let read = read_back k a.conductor a.coefficients a.array a.small c.in-Some.whole is in
    record {
      quotient = sym (quotient_below k a.conductor c.args.n (cyclotomic_value k a.coefficients) c.in-Some.whole (ap natural_of (sym read) ∙ sym c.natural.ensures.natural ∙ c.in_default-natural.is) is);
    }

pub returns-then-number-n-eq0 : goal.returns-then-number-n-eq0
returns-then-number-n-eq0 g c =
    let k = g.row.K in
    let a = c.args.value.now in
    let number = c.in-Some-natural.number in
    record {
      quotient = ap (λ n. Some (number / n)) c.from-n.ensures
          ∙ sym (quotient_found k a.conductor c.args.n (cyclotomic_value k a.coefficients) number (number_is g (goal.at.returns-then-number-n-eq0 g c).After-from-n)
          (ap (λ n. number % n) (sym c.from-n.ensures) ∙ c.if-number-n-eq0.true));
    }

pub returns-else-number-n-eq0 : goal.returns-else-number-n-eq0
returns-else-number-n-eq0 g c =
    let k = g.row.K in
    let a = c.args.value.now in
    let number = c.in-Some-natural.number in
    record {
      quotient = sym (quotient_rest k a.conductor c.args.n (cyclotomic_value k a.coefficients) number (number_is g (goal.at.returns-else-number-n-eq0 g c).After-from-n)
          (λ divides. c.if-number-n-eq0.false (ap (λ n. number % n) c.from-n.ensures ∙ divides)));
    }
