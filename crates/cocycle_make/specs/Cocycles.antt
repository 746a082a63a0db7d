-- Cocycles by formulas. Types I, II and III are those of products of cyclic groups (de Wild Propitius 1995).
use Rattle.std.specs.Prelude.{ℕ, ◌+◌, ◌*◌, ◌/◌, ◌%◌, nat_le, List, slice_index, if◌then◌else◌}
use Rattle.group_table.specs.Group.{Table}
use Rattle.group_make.specs.Formulas.{cyclic_group, product_group}
use Rattle.cochain.specs.Cochain.{Cochain, value, cochain_of, exponents_by}
use Rattle.cocycle_make.specs.Divisors.{common_divisor}

-- the carry of the sum of two numbers below b: 1 where it reaches b
abbrev pub carry : ℕ → ℕ → ℕ → ℕ
carry b y z = if nat_le b (y + z) then 1 else 0

-- The class p modulo n, in lowest terms: so many roots of unity, and this exponent of one.
abbrev pub roots_of : ℕ → ℕ → ℕ
roots_of n p = n / common_divisor n (p % n)

abbrev pub step_of : ℕ → ℕ → ℕ
step_of n p = p % n / common_divisor n (p % n)

-- 1 everywhere
abbrev pub trivial_cocycle : Table → ℕ → Cochain
trivial_cocycle t roots = cochain_of t roots (exponents_by t.order (λ x y z. 0))

-- Type I on the cyclic group of order n: p x carry(y, z) / n
abbrev pub type_one_value : ℕ → ℕ → ℕ → ℕ → ℕ → ℕ
type_one_value n step x y z = step * x * carry n y z

abbrev pub type_one_cocycle : ℕ → ℕ → Cochain
type_one_cocycle n p = cochain_of (cyclic_group n) (roots_of n p) (exponents_by n (type_one_value n (step_of n p)))

-- Type II on the product of the cyclic groups of orders a and b, whose pair (x1, x2) has number x1 b + x2:
-- p x1 carry(y2, z2) / a
abbrev pub type_two_value : ℕ → ℕ → ℕ → ℕ → ℕ → ℕ
type_two_value b step x y z = step * (x / b) * carry b (y % b) (z % b)

abbrev pub type_two_cocycle : ℕ → ℕ → ℕ → Cochain
type_two_cocycle a b p =
    cochain_of (product_group 1 a b) (roots_of a p) (exponents_by (1 * a * b) (type_two_value b (step_of a p)))

-- Type III on the product of the cyclic groups of orders a, b and c: p x1 y2 z3 / t, where t is their greatest
-- common divisor
abbrev pub type_three_value : ℕ → ℕ → ℕ → ℕ → ℕ → ℕ → ℕ
type_three_value b c step x y z = step * (x / c / b) * (y / c % b * (z % c))

abbrev pub divisor_of_three : ℕ → ℕ → ℕ → ℕ
divisor_of_three a b c = common_divisor (common_divisor a b) c

abbrev pub type_three_cocycle : ℕ → ℕ → ℕ → ℕ → Cochain
type_three_cocycle a b c p =
    let t = divisor_of_three a b c in
    cochain_of (product_group a b c) (roots_of t p) (exponents_by (a * b * c) (type_three_value b c (step_of t p)))

-- the exponents of the images under a map, which is listed
abbrev pub inflated : Table → List ℕ → Cochain → Cochain
inflated t map w =
    cochain_of t w.roots
    (exponents_by t.order (λ x y z. value w (slice_index map x) (slice_index map y) (slice_index map z)))
