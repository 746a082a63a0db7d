-- The first place at which the candidates of a list of central characters fail, by row and then by element; and what their rows are.
use Rattle.std.specs.Prelude.{◌≡◌, ℕ, ◌==◌, ℤ, List, Option, Some, None, unwrap_or, if◌then◌else◌}
use Rattle.scan.specs.First.{first}
use Rattle.qd_ring.specs.CycArrays.{array_of}
use Rattle.twisted.specs.Twist.{TwistedSubgroup, size, element}
use Rattle.group_table.specs.Numbers.{tabulated}
use Rattle.char_lift.specs.Ratios.{character_ratios}
use Rattle.char_lift.specs.Candidate.{degree_sum, degree_of, multiplicity_sum, lifted_value}
use Rattle.char_lift.specs.declared.refusal.LiftRefusal.{LiftRefusal}
use Rattle.char_lift.specs.declared.refusal.LiftRefusal.TheVariants.{NoDegree, Multiplicity, Memory}

module _ (s : TwistedSubgroup) (q k z : ℕ) where
  -- the multiplicities at the place x don't add up to the degree d
  abbrev pub place_fault : ℕ → List ℕ → ℕ → ℕ → Option LiftRefusal
  place_fault row c d x =
      if multiplicity_sum s q k z c d x == d then None else Some (Multiplicity row (element s x) (multiplicity_sum s q k z c d x) d)

  -- what fails first where the degree is this: there is none, or some place fails
  abbrev pub fault_with : ℕ → List ℕ → Option ℕ → Option LiftRefusal
  fault_with row c (Some d) = first (size s) (place_fault row c d)
  fault_with row c None = Some (NoDegree row (degree_sum s q k z c))

  -- what fails first in the row with this number and these character ratios
  unfoldable pub row_fault : ℕ → List ℕ → Option LiftRefusal
  row_fault row c = fault_with row c (degree_of s q k z c)

  -- what fails first in the first row that fails; the rows are central characters by their values
  unfoldable pub lift_fault : ℕ → (ℕ → ℕ → ℕ) → Option LiftRefusal
  lift_fault count rows = first count (λ row. row_fault row (character_ratios s q k z (rows row)))

  -- the row of the candidate with these character ratios: the array of the lifted value at each place. It is asked for only where there
  -- is a degree, so the 0 of none is not met
  abbrev pub lifted_row : List ℕ → List (List ℤ)
  lifted_row c = tabulated (size s) (λ x. array_of (lifted_value s q k z c (unwrap_or (degree_of s q k z c) 0) x))

  -- the rows of the candidates, in their order
  abbrev pub lifted_rows : ℕ → (ℕ → ℕ → ℕ) → List (List (List ℤ))
  lifted_rows count rows = tabulated count (λ row. lifted_row (character_ratios s q k z (rows row)))

-- a refusal is what fails first; want of memory says nothing
abbrev pub Refuses : LiftRefusal → Option LiftRefusal → Type 0
Refuses Memory fault = Unit {0}
Refuses refusal fault = fault ≡ Some refusal
