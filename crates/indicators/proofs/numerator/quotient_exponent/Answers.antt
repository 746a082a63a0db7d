use Rattle.indicators.proofs.Names.{◌∙◌, ◌*◌, ◌%◌, ◌+◌, ◌-◌, ap, ap₂}
use Rattle.std.proofs.lemmas.Nat.{mul-mod_second}
use Rattle.indicators.proofs.numerator.quotient_exponent.Goals as goal

pub returns : goal.returns
returns g c =
    let k = g.row.K in
    let sum = ap₂ (λ t u. t + u) c.from.ensures c.from-2.ensures in
    record {
      exponent = ap₂ (λ a b. (a * b) % c.from-5.result) c.from-4.ensures (ap₂ (λ a b. a % b) sum c.from-3.ensures)
          ∙ ap (λ b. (c.args.m * ((c.args.t + (k - c.args.u)) % k)) % b) c.from-5.ensures ∙ mul-mod_second c.args.m (c.args.t + (k - c.args.u)) k;
    }
