-- What holds of powers, orders and the exponent in each finite group whose elements are the numbers below its size.
use Prim.Native.Nat.{◌∣◌}
use Rattle.std.specs.Prelude.{◌≡◌, ◌≢◌, ℕ, ◌+◌, ◌*◌, ◌%◌, ◌<◌, ◌≤◌, ◌↔◌, Some}
use Rattle.orders.specs.Group.{IsGroupBelow, power}
use Rattle.orders.specs.Order.{IsOrder, IsExponent, order_of, exponent_of, least_from_one, is_unit_power, are_unit_powers}

-- a power of an element is an element
abbrev pub PowerBelow : Type 0
PowerBelow =
    (n : ℕ) (op : ℕ → ℕ → ℕ) (unit : ℕ) → IsGroupBelow n op unit →
    (g j : ℕ) → g < n → power op unit g j < n

-- g^1 = g
abbrev pub PowerOne : Type 0
PowerOne =
    (n : ℕ) (op : ℕ → ℕ → ℕ) (unit : ℕ) → IsGroupBelow n op unit →
    (g : ℕ) → g < n → power op unit g 1 ≡ g

-- g^(i + j) = g^i g^j
abbrev pub PowerOfSum : Type 0
PowerOfSum =
    (n : ℕ) (op : ℕ → ℕ → ℕ) (unit : ℕ) → IsGroupBelow n op unit →
    (g i j : ℕ) → g < n → power op unit g (i + j) ≡ op (power op unit g i) (power op unit g j)

-- g^(i j) = (g^i)^j
abbrev pub PowerOfProduct : Type 0
PowerOfProduct =
    (n : ℕ) (op : ℕ → ℕ → ℕ) (unit : ℕ) → IsGroupBelow n op unit →
    (g i j : ℕ) → g < n → power op unit g (i * j) ≡ power op unit (power op unit g i) j

-- each power of the identity is the identity
abbrev pub PowerOfUnit : Type 0
PowerOfUnit =
    (n : ℕ) (op : ℕ → ℕ → ℕ) (unit : ℕ) → IsGroupBelow n op unit →
    (j : ℕ) → power op unit unit j ≡ unit

-- where g^k is the identity, g^j depends on the remainder of j modulo k alone
abbrev pub PowerOfRemainder : Type 0
PowerOfRemainder =
    (n : ℕ) (op : ℕ → ℕ → ℕ) (unit : ℕ) → IsGroupBelow n op unit →
    (g k j : ℕ) → g < n → power op unit g k ≡ unit → power op unit g (j % k) ≡ power op unit g j

-- an inverse on the right is an inverse on the left
abbrev pub InverseOnLeft : Type 0
InverseOnLeft =
    (n : ℕ) (op : ℕ → ℕ → ℕ) (unit : ℕ) → IsGroupBelow n op unit →
    (g h : ℕ) → g < n → h < n → op g h ≡ unit → op h g ≡ unit

-- an element has one inverse
abbrev pub InverseUnique : Type 0
InverseUnique =
    (n : ℕ) (op : ℕ → ℕ → ℕ) (unit : ℕ) → IsGroupBelow n op unit →
    (g h k : ℕ) → g < n → h < n → k < n → op g h ≡ unit → op g k ≡ unit → h ≡ k

-- g x = g y only where x = y
abbrev pub CancelLeft : Type 0
CancelLeft =
    (n : ℕ) (op : ℕ → ℕ → ℕ) (unit : ℕ) → IsGroupBelow n op unit →
    (x y g : ℕ) → x < n → y < n → g < n → op g x ≡ op g y → x ≡ y

-- x g = y g only where x = y
abbrev pub CancelRight : Type 0
CancelRight =
    (n : ℕ) (op : ℕ → ℕ → ℕ) (unit : ℕ) → IsGroupBelow n op unit →
    (x y g : ℕ) → x < n → y < n → g < n → op x g ≡ op y g → x ≡ y

-- some number from 1 to n gives the identity, and the order is the least of them
abbrev pub OrderFound : Type 0
OrderFound =
    (n : ℕ) (op : ℕ → ℕ → ℕ) (unit : ℕ) → IsGroupBelow n op unit →
    (g : ℕ) → g < n → least_from_one n (is_unit_power op unit g) ≡ Some (order_of n op unit g)

-- the order of g is the least number from 1 on with g^j the identity
abbrev pub OrderIsLeast : Type 0
OrderIsLeast =
    (n : ℕ) (op : ℕ → ℕ → ℕ) (unit : ℕ) → IsGroupBelow n op unit →
    (g : ℕ) → g < n → IsOrder op unit g (order_of n op unit g)

-- only the order of g is such a number
abbrev pub OrderUnique : Type 0
OrderUnique =
    (n : ℕ) (op : ℕ → ℕ → ℕ) (unit : ℕ) → IsGroupBelow n op unit →
    (g k : ℕ) → g < n → IsOrder op unit g k → k ≡ order_of n op unit g

-- an order is at most the size of the group
abbrev pub OrderAtMostSize : Type 0
OrderAtMostSize =
    (n : ℕ) (op : ℕ → ℕ → ℕ) (unit : ℕ) → IsGroupBelow n op unit →
    (g : ℕ) → g < n → order_of n op unit g ≤ n

-- g^j is the identity exactly where the order of g divides j
abbrev pub OrderDivides : Type 0
OrderDivides =
    (n : ℕ) (op : ℕ → ℕ → ℕ) (unit : ℕ) → IsGroupBelow n op unit →
    (g j : ℕ) → g < n → (order_of n op unit g ∣ j) ↔ (power op unit g j ≡ unit)

-- the powers of g below its order differ
abbrev pub PowersDiffer : Type 0
PowersDiffer =
    (n : ℕ) (op : ℕ → ℕ → ℕ) (unit : ℕ) → IsGroupBelow n op unit →
    (g i j : ℕ) → g < n → i < j → j < order_of n op unit g → power op unit g i ≢ power op unit g j

-- the order of an element divides the size of the group (Lagrange, 1771, for the subgroup of its powers)
abbrev pub Lagrange : Type 0
Lagrange =
    (n : ℕ) (op : ℕ → ℕ → ℕ) (unit : ℕ) → IsGroupBelow n op unit →
    (g : ℕ) → g < n → order_of n op unit g ∣ n

-- g^n is the identity
abbrev pub PowerOfSize : Type 0
PowerOfSize =
    (n : ℕ) (op : ℕ → ℕ → ℕ) (unit : ℕ) → IsGroupBelow n op unit →
    (g : ℕ) → g < n → power op unit g n ≡ unit

-- some number from 1 to n gives the identity for each element, and the exponent is the least of them
abbrev pub ExponentFound : Type 0
ExponentFound =
    (n : ℕ) (op : ℕ → ℕ → ℕ) (unit : ℕ) → IsGroupBelow n op unit →
    least_from_one n (are_unit_powers n op unit) ≡ Some (exponent_of n op unit)

-- the exponent is the least number from 1 on with g^j the identity for each element g
abbrev pub ExponentIsLeast : Type 0
ExponentIsLeast =
    (n : ℕ) (op : ℕ → ℕ → ℕ) (unit : ℕ) → IsGroupBelow n op unit →
    IsExponent n op unit (exponent_of n op unit)

-- only the exponent is such a number
abbrev pub ExponentUnique : Type 0
ExponentUnique =
    (n : ℕ) (op : ℕ → ℕ → ℕ) (unit : ℕ) → IsGroupBelow n op unit →
    (E : ℕ) → IsExponent n op unit E → E ≡ exponent_of n op unit

-- the exponent is at most the size of the group
abbrev pub ExponentAtMostSize : Type 0
ExponentAtMostSize =
    (n : ℕ) (op : ℕ → ℕ → ℕ) (unit : ℕ) → IsGroupBelow n op unit →
    exponent_of n op unit ≤ n

-- g^j is the identity for each element g exactly where the exponent divides j
abbrev pub ExponentDivides : Type 0
ExponentDivides =
    (n : ℕ) (op : ℕ → ℕ → ℕ) (unit : ℕ) → IsGroupBelow n op unit →
    (j : ℕ) → (exponent_of n op unit ∣ j) ↔ ((g : ℕ) → g < n → power op unit g j ≡ unit)

-- the exponent divides the size of the group
abbrev pub ExponentDividesSize : Type 0
ExponentDividesSize =
    (n : ℕ) (op : ℕ → ℕ → ℕ) (unit : ℕ) → IsGroupBelow n op unit →
    exponent_of n op unit ∣ n

-- each order divides the exponent
abbrev pub OrderDividesExponent : Type 0
OrderDividesExponent =
    (n : ℕ) (op : ℕ → ℕ → ℕ) (unit : ℕ) → IsGroupBelow n op unit →
    (g : ℕ) → g < n → order_of n op unit g ∣ exponent_of n op unit

-- the exponent divides each common multiple of the orders
abbrev pub ExponentDividesMultiple : Type 0
ExponentDividesMultiple =
    (n : ℕ) (op : ℕ → ℕ → ℕ) (unit : ℕ) → IsGroupBelow n op unit →
    (m : ℕ) → ((g : ℕ) → g < n → order_of n op unit g ∣ m) → exponent_of n op unit ∣ m
