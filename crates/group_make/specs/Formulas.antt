-- Groups by formulas on the coordinates of their elements (textbook). The elements are the numbers below the order.
use Rattle.std.specs.Prelude.{ℕ, ◌+◌, ◌-◌, ◌*◌, ◌/◌, ◌%◌, ◌^◌, ◌==◌, if◌then◌else◌}
use Rattle.group_table.specs.Group.{Table}
use Rattle.group_table.specs.Numbers.{by_pairs}

-- the table of the products that a formula gives, row after row
abbrev pub table_by : ℕ → (ℕ → ℕ → ℕ) → Table
table_by order op = record { order = order; entries = by_pairs order op }

-- the number of the pair (x, i), where x is below n; g is the pair (g % n, g / n)
abbrev pub pair : ℕ → ℕ → ℕ → ℕ
pair n x i = x + n * i

-- Addition modulo n.
abbrev pub cyclic_product : ℕ → ℕ → ℕ → ℕ
cyclic_product n g h = (g + h) % n

abbrev pub cyclic_group : ℕ → Table
cyclic_group n = table_by n (cyclic_product n)

-- k where j is 0, and -k modulo n where it is not
abbrev pub reflected : ℕ → ℕ → ℕ → ℕ
reflected n j k = if j == 0 then k else n - k

-- The dihedral group of order 2 n: pairs (i, j), i modulo n and j modulo 2, with (i,j)(k,l) = (i + k, l + j) for j = 0
-- and (i - k, l + j) for j = 1.
abbrev pub dihedral_product : ℕ → ℕ → ℕ → ℕ
dihedral_product n g h = pair n ((g % n + reflected n (g / n) (h % n)) % n) ((g / n + h / n) % 2)

abbrev pub dihedral_group : ℕ → Table
dihedral_group n = table_by (2 * n) (dihedral_product n)

-- The dicyclic group of order 4 n: pairs (i, j), i modulo m = 2 n and j modulo 2, with (i,0)(k,l) = (i + k, l),
-- (i,1)(k,0) = (i - k, 1) and (i,1)(k,1) = (i - k + n, 0), so that the square of (0,1) is the central element (n, 0).
abbrev pub dicyclic_product : ℕ → ℕ → ℕ → ℕ
dicyclic_product n g h =
    let m = 2 * n in
    pair m ((g % m + reflected m (g / m) (h % m) + n * ((g / m) * (h / m))) % m) ((g / m + h / m) % 2)

abbrev pub dicyclic_group : ℕ → Table
dicyclic_group n = table_by (4 * n) (dicyclic_product n)

-- The product of cyclic groups of orders a, b and c: the triple (x, y, z) has number (x b + y) c + z, and triples are
-- multiplied at each place.
abbrev pub triple_product : ℕ → ℕ → ℕ → ℕ → ℕ → ℕ
triple_product a b c g h =
    ((g / c / b + h / c / b) % a * b + (g / c % b + h / c % b) % b) * c + (g % c + h % c) % c

abbrev pub product_group : ℕ → ℕ → ℕ → Table
product_group a b c = table_by (a * b * c) (triple_product a b c)

-- The semidirect product of cyclic groups of orders n and m, where 1 acts by the factor r: pairs (x, i) with
-- (x,i)(y,j) = (x + r^i y, i + j).
abbrev pub semidirect_product : ℕ → ℕ → ℕ → ℕ → ℕ → ℕ
semidirect_product n m r g h = pair n ((g % n + r ^ (g / n) * (h % n)) % n) ((g / n + h / n) % m)

abbrev pub semidirect_group : ℕ → ℕ → ℕ → Table
semidirect_group n m r = table_by (n * m) (semidirect_product n m r)
