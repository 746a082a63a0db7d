-- What a ring object of residues stands for: its field, and its root of unity.
use Rattle.algebra.specs.Structures.{CommRing}
use Rattle.algebra.specs.Roots.{RootOfUnity}
use Rattle.algebra.specs.Below.{Below}
use Rattle.prime_field.specs.declared.mod_ring.ModRing.{ModRing}
use Rattle.prime_field.specs.Field.{field}
use Rattle.prime_field.specs.Laws.Field.{field_unit}

-- the field of the residues
abbrev pub residue_field : (ring : ModRing) → CommRing (Below ring.q)
residue_field ring = field ring.q ring.listed

-- the least root of the cyclotomic polynomial of the conductor, as a root of unity of that order
abbrev pub residue_root : (ring : ModRing) → RootOfUnity (residue_field ring) ring.conductor
residue_root ring = field_unit ring.q ring.listed ring.conductor ring.root ring.least ring.entry ring.apart
