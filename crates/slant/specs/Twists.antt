-- The centraliser of an element a with the slant product at a (Dijkgraaf, Pasquier, Roche 1990). An element is a number of the whole
-- group; a place is the number of an element in the ascending list of the centraliser.
use Rattle.std.specs.Prelude.{ℕ, ◌==◌, List, length, slice_index, Option, Some, None, unwrap_or, if◌then◌else◌}
use Rattle.scan.specs.First.{first}
use Rattle.group_table.specs.Group.{Table, product}
use Rattle.group_table.specs.Numbers.{by_pairs}
use Rattle.cochain.specs.Cochain.{Cochain}
use Rattle.classes.specs.Conjugacy.{centraliser_of}
use Rattle.twisted.specs.Twist.{TwistedSubgroup}
use Rattle.slant.specs.Phases.{theta}

-- the place of the element x among these, if it is one
abbrev pub place_in : List ℕ → ℕ → Option ℕ
place_in elements x = first (length elements) (λ p. if slice_index elements p == x then Some p else None)

-- the place of the product of the elements at the places p and r. There is one where products are among them, so 0 is never met
abbrev pub product_place : Table → List ℕ → ℕ → ℕ → ℕ
product_place t elements p r = unwrap_or (place_in elements (product t (slice_index elements p) (slice_index elements r))) 0

-- the multiplication table of these elements, over their places
abbrev pub table_of : Table → List ℕ → Table
table_of t elements = record { order = length elements; entries = by_pairs (length elements) (product_place t elements) }

-- th_a at the elements at the places p and r
abbrev pub phase_at : Cochain → ℕ → List ℕ → ℕ → ℕ → ℕ
phase_at w a elements p r = theta w a (slice_index elements p) (slice_index elements r)

-- the centraliser of a, with the exponents of the slant product at a
abbrev pub twist_over : Cochain → ℕ → List ℕ → TwistedSubgroup
twist_over w a elements = record {
  at = a;
  elements = elements;
  group = table_of w.group elements;
  modulus = w.roots;
  phases = by_pairs (length elements) (phase_at w a elements);
}

unfoldable pub twist_of : Cochain → ℕ → TwistedSubgroup
twist_of w a = twist_over w a (centraliser_of w.group a)
