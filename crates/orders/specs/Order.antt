-- The order of an element and the exponent of a group: the least powers that give the identity (textbook).
use Rattle.std.specs.Prelude.{◌≡◌, ℕ, ◌+◌, ◌<◌, ◌≤◌, ◌==◌, Bool, Option, Some, None, if◌then◌else◌, unwrap_or}
use Rattle.scan.specs.First.{first, all_below}
use Rattle.orders.specs.Group.{power}

-- the least number from 1 to n that passes the test
abbrev pub least_from_one : ℕ → (ℕ → Bool) → Option ℕ
least_from_one n passes = first n (λ i. if passes (i + 1) then Some (i + 1) else None)

-- g^j is the identity
abbrev pub is_unit_power : (ℕ → ℕ → ℕ) → ℕ → ℕ → ℕ → Bool
is_unit_power op unit g j = power op unit g j == unit

-- g^j is the identity for each g below n
abbrev pub are_unit_powers : ℕ → (ℕ → ℕ → ℕ) → ℕ → ℕ → Bool
are_unit_powers n op unit j = all_below n (λ g. is_unit_power op unit g j)

-- the order of g: the least number j from 1 to n with g^j the identity. In a group there is one: 0 is never met
unfoldable pub order_of : ℕ → (ℕ → ℕ → ℕ) → ℕ → ℕ → ℕ
order_of n op unit g = unwrap_or (least_from_one n (is_unit_power op unit g)) 0

-- the exponent: the least number j from 1 to n with g^j the identity for each g. In a group there is one: 0 is never met
unfoldable pub exponent_of : ℕ → (ℕ → ℕ → ℕ) → ℕ → ℕ
exponent_of n op unit = unwrap_or (least_from_one n (are_unit_powers n op unit)) 0

-- k is the least number from 1 on with g^k the identity
pub record IsOrder (op : ℕ → ℕ → ℕ) (unit g k : ℕ) : Type 0 where
  pub positive : 1 ≤ k
  pub gives_unit : power op unit g k ≡ unit
  pub least : (j : ℕ) → 1 ≤ j → power op unit g j ≡ unit → k ≤ j

-- E is the least number from 1 on with g^E the identity for each g below n
pub record IsExponent (n : ℕ) (op : ℕ → ℕ → ℕ) (unit E : ℕ) : Type 0 where
  pub positive : 1 ≤ E
  pub gives_unit : (g : ℕ) → g < n → power op unit g E ≡ unit
  pub least : (j : ℕ) → 1 ≤ j → ((g : ℕ) → g < n → power op unit g j ≡ unit) → E ≤ j
