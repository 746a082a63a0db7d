-- Orders and exponents of two groups of six elements (textbook).
use Rattle.std.specs.Prelude.{◌≡◌, ℕ, ◌+◌, ◌*◌, ◌%◌, List, [], ◌∷◌, slice_index}
use Rattle.orders.specs.Group.{IsGroupBelow}
use Rattle.orders.specs.Order.{order_of, exponent_of}

-- addition modulo 6
abbrev pub sum_modulo_6 : ℕ → ℕ → ℕ
sum_modulo_6 a b = (a + b) % 6

-- 1 has order 6, 2 has order 3 and 3 has order 2
abbrev pub CyclicOrders : Type 0
CyclicOrders = (order_of 6 sum_modulo_6 0 1 ≡ 6) × (order_of 6 sum_modulo_6 0 2 ≡ 3) × (order_of 6 sum_modulo_6 0 3 ≡ 2)

-- the product table, row by row, of the permutations of three points: 012, 021, 102, 120, 201, 210, the left one applied first
abbrev pub permutations_of_three : List ℕ
permutations_of_three = 0 ∷ 1 ∷ 2 ∷ 3 ∷ 4 ∷ 5 ∷ 1 ∷ 0 ∷ 3 ∷ 2 ∷ 5 ∷ 4 ∷ 2 ∷ 4 ∷ 0 ∷ 5 ∷ 1 ∷ 3 ∷ 3 ∷ 5 ∷ 1 ∷ 4 ∷ 0 ∷ 2 ∷ 4 ∷ 2 ∷ 5 ∷ 0 ∷ 3 ∷ 1 ∷ 5 ∷ 3 ∷ 4 ∷ 1 ∷ 2 ∷ 0 ∷ []

-- the product of two permutations of three points
abbrev pub after : ℕ → ℕ → ℕ
after a b = slice_index permutations_of_three (6 * a + b)

-- the permutations of three points are a group
abbrev pub SymmetricGroup : Type 0
SymmetricGroup = IsGroupBelow 6 after 0

-- a transposition has order 2, a turn has order 3, and the exponent is 6
abbrev pub SymmetricOrders : Type 0
SymmetricOrders = (order_of 6 after 0 1 ≡ 2) × (order_of 6 after 0 3 ≡ 3) × (exponent_of 6 after 0 ≡ 6)
