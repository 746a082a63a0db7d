use Rattle.prime_field.proofs.Names.{ap, eq-eqb, eqb-true, field_residue}
use Rattle.prime_field.proofs.ResidueSums.{same_residue}
use Rattle.prime_field.proofs.mod_ring_laws.ModRingRing.same.Goals as goal

pub returns : goal.returns
returns c =
    let r = c.args.self.now in (
      λ equal. ap (field_residue r.q r.listed) (eqb-true c.args.a.now c.args.b.now equal),
      λ one. eq-eqb c.args.a.now c.args.b.now (same_residue r.q r.listed c.args.a.now c.args.b.now c.requires.a_value c.requires.b_value one),
    )
