-- The field of residues modulo a listed modulus.
use Rattle.std.specs.Prelude.{◌≡◌, ℕ, true}
use Rattle.algebra.specs.Structures.{CommRing}
use Rattle.algebra.specs.Below.{Below}
use Rattle.algebra.specs.Residues.{residue, residue_ring}
use Rattle.prime_field.specs.Moduli.{is_modulus}
use Rattle.prime_field.specs.Laws.Moduli.{modulus_positive}

module _ (q : ℕ) (listed : is_modulus q ≡ true) where
  -- the residues modulo q, as a ring
  abbrev pub field : CommRing (Below q)
  field = residue_ring q (modulus_positive q listed)

  -- the residue of a number
  abbrev pub field_residue : ℕ → Below q
  field_residue a = residue q (modulus_positive q listed) a
