use Rattle.char_lift.proofs.Names.{◌≡◌, ◌<◌, suc, ap, ◌∙◌, arith, ModRing, power_modulo, modulus_positive, ListsPowers}
use Rattle.char_lift.proofs.Residues.{power_below}
use Rattle.char_lift.proofs.root_powers.RootPowers.power.Goals as goal

pub returns-clause-below : goal.returns-clause-below
returns-clause-below c =
    let f = c.self.inside.field in
    let listed : ListsPowers f.q f.root (suc f.conductor) c.self.inside.powers = c.self.invariant in
    let within : c.args.e < suc f.conductor = omega (arith, c.requires.at_most, ap (λ (r : ModRing). r.conductor) c.self.view_is) in
    let is : c.at.result ≡ power_modulo f.q f.root c.args.e = c.at.ensures.number ∙ listed.each c.args.e within in
    omega (arith, is, power_below f.q f.root c.args.e (modulus_positive f.q f.listed), ap (λ (r : ModRing). r.q) c.self.view_is)
