-- What refuses a map between groups, and what a refusal says.
use Rattle.std.specs.Prelude.{◌≡◌, ℕ, Bool, ◌==◌, List, slice_index, Option, Some, None, if◌then◌else◌}
use Rattle.scan.specs.First.{first}
use Rattle.group_table.specs.Group.{Table, product}
use Rattle.cocycle_make.specs.declared.refusal.InflateRefusal.{InflateRefusal}
use Rattle.cocycle_make.specs.declared.refusal.InflateRefusal.TheVariants.{BadMap, Memory}

-- the image of the product is the product of the images
abbrev pub is_multiplicative : Table → List ℕ → Table → ℕ → ℕ → Bool
is_multiplicative t map to g h = slice_index map (product t g h) == product to (slice_index map g) (slice_index map h)

-- the least pair at which it is not
abbrev pub map_fault_in : Table → List ℕ → Table → ℕ → Option InflateRefusal
map_fault_in t map to g = first t.order (λ h. if is_multiplicative t map to g h then None else Some (BadMap g h))

abbrev pub map_fault : Table → List ℕ → Table → Option InflateRefusal
map_fault t map to = first t.order (map_fault_in t map to)

-- the refusal is exactly the fault of the map; want of memory says nothing
abbrev pub RefusesMap : InflateRefusal → Option InflateRefusal → Type 0
RefusesMap Memory fault = Unit {0}
RefusesMap (BadMap g h) fault = fault ≡ Some (BadMap g h)
