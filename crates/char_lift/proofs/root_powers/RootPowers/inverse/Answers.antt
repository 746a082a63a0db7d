use Rattle.char_lift.proofs.Names.{ap, arith, ModRing, modulus_positive}
use Rattle.char_lift.proofs.Residues.{inverse_or_zero}
use Rattle.char_lift.proofs.root_powers.RootPowers.inverse.Goals as goal

pub returns-clause-below : goal.returns-clause-below
returns-clause-below c =
    let f = c.self.inside.field in
    omega (arith, c.unwrap_or.ensures, inverse_or_zero f.q c.inverse.result (modulus_positive f.q f.listed) c.inverse.ensures.below, ap (λ (r : ModRing). r.q) c.self.view_is)
