-- What the text of a value is read as.
use Rattle.std.specs.Prelude.{◌≡◌, ℕ, ℤ, true, false, List, Result, Ok, Err}
use Rattle.qd_ring.specs.declared.plain.Plain.{Plain}
use Rattle.qd_ring.specs.declared.plain.ValueFault.{ValueFault}
use Rattle.qd_ring.specs.declared.plain.ValueFault.TheVariants.{NotValue, Wide}
use Rattle.qd_ring.specs.CycArrays.{is_small}
use Rattle.qd_ring.specs.ValueText.{Spells}

-- the value that the text spells, or why there is none
abbrev pub IsRead : List ℕ → ℕ → Result Plain ValueFault → Type 0
IsRead text phi (Ok p) = Spells text phi p.coefficients × (is_small p.coefficients ≡ true)
IsRead text phi (Err Wide) = (cs : List ℤ) × Spells text phi cs × (is_small cs ≡ false)
IsRead text phi (Err NotValue) = (cs : List ℤ) → Spells text phi cs → ⊥
