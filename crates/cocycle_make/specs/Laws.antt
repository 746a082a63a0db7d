-- What holds of each cocycle that a formula gives, for numbers without bound.
use Rattle.std.specs.Prelude.{◌≡◌, ℕ, ◌+◌, ◌%◌, ◌<◌, None, List, slice_index}
use Rattle.group_table.specs.Group.{Table, product, identity_of, IsGroup}
use Rattle.cochain.specs.Cochain.{Cochain, cochain_of, exponents_by, cocycle_fault, IsCocycle}
use Rattle.cochain.specs.Laws.{IsLawful}
use Rattle.cocycle_make.specs.Cocycles.{trivial_cocycle, type_one_cocycle, type_two_cocycle, type_three_cocycle, inflated}
use Rattle.cocycle_make.specs.Refusal.{map_fault}

-- the check of exponents is no stricter: those that meet the plain laws break none
abbrev pub LawfulExponents : Type 0
LawfulExponents =
    (t : Table) (roots : ℕ) (at : ℕ → ℕ → ℕ → ℕ) → IsGroup t → IsLawful t.order (product t) (identity_of t) roots at →
    cocycle_fault (cochain_of t roots (exponents_by t.order at)) ≡ None

abbrev pub TrivialIsLawful : Type 0
TrivialIsLawful = (t : Table) (roots : ℕ) → IsGroup t → 0 < roots → cocycle_fault (trivial_cocycle t roots) ≡ None

abbrev pub TypeOneIsLawful : Type 0
TypeOneIsLawful = (n p : ℕ) → 0 < n → cocycle_fault (type_one_cocycle n p) ≡ None

abbrev pub TypeTwoIsLawful : Type 0
TypeTwoIsLawful = (a b p : ℕ) → 0 < a → 0 < b → cocycle_fault (type_two_cocycle a b p) ≡ None

abbrev pub TypeThreeIsLawful : Type 0
TypeThreeIsLawful = (a b c p : ℕ) → 0 < a → 0 < b → 0 < c → cocycle_fault (type_three_cocycle a b c p) ≡ None

-- a map into the group of a cocycle that respects products
abbrev pub InflatedIsLawful : Type 0
InflatedIsLawful =
    (t : Table) (map : List ℕ) (w : Cochain) → IsGroup t → IsCocycle w →
    ((g : ℕ) → g < t.order → slice_index map g < w.group.order) → map_fault t map w.group ≡ None →
    cocycle_fault (inflated t map w) ≡ None
