use Rattle.prime_field.specs.Laws.Field.{field_unit}
use Rattle.prime_field.proofs.Inverses.{residues_fit}
use Rattle.prime_field.proofs.ResidueSums.{multiple_residue}
use Rattle.prime_field.proofs.mod_ring_laws.ModRingRing.try_scale.Goals as goal

pub overflow_mul-result : goal.overflow_mul-result
overflow_mul-result c = residues_fit c.args.self.now.q c.args.self.now.listed c.root_power.result c.args.a.now c.root_power.ensures.below c.requires

pub returns-clause-multiple : goal.returns-clause-multiple
returns-clause-multiple c =
    let r = c.args.self.now in
    multiple_residue r.q r.listed r.conductor (field_unit r.q r.listed r.conductor r.root r.least r.entry r.apart) c.args.e c.root_power.result c.args.a.now c.root_power.ensures.power
