-- What holds of each group that a formula gives, for numbers without bound.
use Rattle.std.specs.Prelude.{◌≡◌, ℕ, ◌%◌, ◌^◌, ◌<◌, None}
use Rattle.orders.specs.Group.{IsGroupBelow}
use Rattle.group_table.specs.Group.{Table, product, group_fault, IsGroup}
use Rattle.group_make.specs.Formulas.{table_by, cyclic_group, dihedral_group, dicyclic_group, product_group, semidirect_group}

-- the check of a table is no stricter than the laws: a table whose products are a group breaks none
abbrev pub LawfulTables : Type 0
LawfulTables = (t : Table) (unit : ℕ) → IsGroupBelow t.order (product t) unit → group_fault t ≡ None

-- the products of a table by a formula are those of the formula
abbrev pub ProductsByFormula : Type 0
ProductsByFormula = (n g h : ℕ) (op : ℕ → ℕ → ℕ) → g < n → h < n → product (table_by n op) g h ≡ op g h

abbrev pub CyclicIsGroup : Type 0
CyclicIsGroup = (n : ℕ) → 0 < n → IsGroup (cyclic_group n)

abbrev pub DihedralIsGroup : Type 0
DihedralIsGroup = (n : ℕ) → 0 < n → IsGroup (dihedral_group n)

abbrev pub DicyclicIsGroup : Type 0
DicyclicIsGroup = (n : ℕ) → 0 < n → IsGroup (dicyclic_group n)

abbrev pub ProductIsGroup : Type 0
ProductIsGroup = (a b c : ℕ) → 0 < a → 0 < b → 0 < c → IsGroup (product_group a b c)

abbrev pub SemidirectIsGroup : Type 0
SemidirectIsGroup = (n m r : ℕ) → 0 < n → 0 < m → r ^ m % n ≡ 1 % n → IsGroup (semidirect_group n m r)
