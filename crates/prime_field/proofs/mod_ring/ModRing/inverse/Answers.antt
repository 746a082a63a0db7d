use Rattle.prime_field.proofs.Names.{◌≡◌, ◌∙◌, mod-lt, inverse_modulo, modulus_positive, inverse_mod}
use Rattle.prime_field.proofs.Inverses.{inverse_is}
use Rattle.prime_field.proofs.mod_ring.ModRing.inverse.Goals as goal

pub nonzero_rem-a : goal.nonzero_rem-a
nonzero_rem-a c = modulus_positive c.args.self.now.q c.args.self.now.listed

pub least_inverse-requires : goal.least_inverse-requires
least_inverse-requires c = mod-lt c.args.a (modulus_positive c.args.self.now.q c.args.self.now.listed)

pub returns : goal.returns
returns c =
    let r = c.args.self.now in
    let same : c.least_inverse.result ≡ inverse_modulo r.q c.args.a = c.least_inverse.ensures ∙ inverse_mod r.q c.args.a in
    let says = inverse_is r.q r.listed c.args.a c.least_inverse.result same in
    record { inverse = same; below = says.0; product = says.1; there = says.2; absent = says.3 }
