-- The order and the exponent as found, and what they divide.
use Prim.Native.Nat.{◌∣◌}
use Rattle.std.proofs.Common.{◌≡◌, ◌≢◌, ℕ, ◌+◌, ◌-◌, ◌<◌, ◌≤◌, true, ◌↔◌, Some, inl, inr, refl, sym, ap, ◌∙◌, arith, le_antisymm, eq-eqb, eqb-true}
use Rattle.scan.proofs.Places.{all_below-at, all_below-all}
use Rattle.orders.specs.Group.{IsGroupBelow, power}
use Rattle.orders.specs.Order.{IsOrder, IsExponent, order_of, exponent_of, least_from_one, is_unit_power, are_unit_powers}
use Rattle.orders.proofs.Least.{IsScanned, scanned, divides_exactly}
use Rattle.orders.proofs.Powers.{power_modulo, power_repeats}
use Rattle.orders.proofs.Orders.{order_scanned, order_divides_size}

module _ (n : ℕ) (op : ℕ → ℕ → ℕ) (unit : ℕ) (G : IsGroupBelow n op unit) where
  -- the scan from 1 to n finds the order
  pub order_found : (g : ℕ) → g < n → least_from_one n (is_unit_power op unit g) ≡ Some (order_of n op unit g)
  order_found g p = (order_scanned n op unit G g p).found

  -- an order is at most the size of the group
  pub order_at_most_size : (g : ℕ) → g < n → order_of n op unit g ≤ n
  order_at_most_size g p = (order_scanned n op unit G g p).at_most

  -- the order is the least number from 1 on that gives the identity
  pub order_is_least : (g : ℕ) → g < n → IsOrder op unit g (order_of n op unit g)
  order_is_least g p =
      let scan = order_scanned n op unit G g p in
      record { positive = scan.positive; gives_unit = eqb-true _ _ scan.here; least = λ j p e. scan.least j p (eq-eqb _ _ e) }

  -- no other number is that
  pub order_unique : (g k : ℕ) → g < n → IsOrder op unit g k → k ≡ order_of n op unit g
  order_unique g k p order =
      let found : IsOrder op unit g (order_of n op unit g) = order_is_least g p in
      le_antisymm (order.least _ found.positive found.gives_unit) (found.least k order.positive order.gives_unit)

  -- g^j is the identity exactly where the order of g divides j
  pub order_divides : (g j : ℕ) → g < n → (order_of n op unit g ∣ j) ↔ (power op unit g j ≡ unit)
  unfolding power
  order_divides g j p =
      let found : IsOrder op unit g (order_of n op unit g) = order_is_least g p in
      let remainder = λ (i : ℕ). power_modulo n op unit G g (order_of n op unit g) i p found.gives_unit in
      divides_exactly (λ i. power op unit g i ≡ unit) (order_of n op unit g) found.positive found.least refl
      (λ i gives. sym (remainder i) ∙ gives) (λ i gives. remainder i ∙ gives) j

  -- the powers of g below its order differ
  pub powers_differ : (g i j : ℕ) → g < n → i < j → j < order_of n op unit g → power op unit g i ≢ power op unit g j
  powers_differ g i j p less last e =
      let d : ℕ = j - i in
      let whole : j ≡ i + d = omega arith in
      let gives : power op unit g d ≡ unit = power_repeats n op unit G g i d p (e ∙ ap (power op unit g) whole) in
      let most : order_of n op unit g ≤ d = (order_is_least g p).least d (omega arith) gives in
      omega arith

  -- the order divides the size of the group (Lagrange)
  pub lagrange : (g : ℕ) → g < n → order_of n op unit g ∣ n
  lagrange g p = order_divides_size n op unit G g (order_of n op unit g) p (order_is_least g p)

  -- g^n is the identity
  pub power_of_size : (g : ℕ) → g < n → power op unit g n ≡ unit
  power_of_size g p = (order_divides g n p).0 (lagrange g p)

  -- the test for all elements, from the fact
  are_unit_from : (j : ℕ) → ((g : ℕ) → g < n → power op unit g j ≡ unit) → are_unit_powers n op unit j ≡ true
  are_unit_from j each = all_below-all n (λ g. is_unit_power op unit g j) (λ g p. eq-eqb _ _ (each g p))

  exponent_scanned : IsScanned n (are_unit_powers n op unit) (exponent_of n op unit)
  unfolding exponent_of
  exponent_scanned =
      elim (scanned n (are_unit_powers n op unit)) [
        | inl fail ↦ absurd (let wrong = fail n (omega (arith, G.unit_below)) (omega arith) in let right = are_unit_from n power_of_size in cc)
        | inr found ↦ found
      ]

  -- the scan from 1 to n finds the exponent
  pub exponent_found : least_from_one n (are_unit_powers n op unit) ≡ Some (exponent_of n op unit)
  exponent_found = exponent_scanned.found

  -- the exponent is at most the size of the group
  pub exponent_at_most_size : exponent_of n op unit ≤ n
  exponent_at_most_size = exponent_scanned.at_most

  -- the exponent is the least number from 1 on that gives the identity for each element
  pub exponent_is_least : IsExponent n op unit (exponent_of n op unit)
  exponent_is_least = record {
    positive = exponent_scanned.positive;
    gives_unit = λ g p. eqb-true _ _ (all_below-at n g (λ g. is_unit_power op unit g (exponent_of n op unit)) exponent_scanned.here p);
    least = λ j p each. exponent_scanned.least j p (are_unit_from j each);
  }

  -- no other number is that
  pub exponent_unique : (E : ℕ) → IsExponent n op unit E → E ≡ exponent_of n op unit
  exponent_unique E exponent =
      let found : IsExponent n op unit (exponent_of n op unit) = exponent_is_least in
      le_antisymm (exponent.least _ found.positive found.gives_unit) (found.least E exponent.positive exponent.gives_unit)

  -- g^j is the identity for each element g exactly where the exponent divides j
  pub exponent_divides : (j : ℕ) → (exponent_of n op unit ∣ j) ↔ ((g : ℕ) → g < n → power op unit g j ≡ unit)
  unfolding power
  exponent_divides j =
      let found : IsExponent n op unit (exponent_of n op unit) = exponent_is_least in
      let remainder = λ (i g : ℕ) (p : g < n). power_modulo n op unit G g (exponent_of n op unit) i p (found.gives_unit g p) in
      divides_exactly (λ i. (g : ℕ) → g < n → power op unit g i ≡ unit) (exponent_of n op unit) found.positive found.least (λ g p. refl)
      (λ i gives g p. sym (remainder i g p) ∙ gives g p) (λ i gives g p. remainder i g p ∙ gives g p) j

  -- the exponent divides the size of the group
  pub exponent_divides_size : exponent_of n op unit ∣ n
  exponent_divides_size = (exponent_divides n).1 power_of_size

  -- each order divides the exponent
  pub order_divides_exponent : (g : ℕ) → g < n → order_of n op unit g ∣ exponent_of n op unit
  order_divides_exponent g p = (order_divides g (exponent_of n op unit) p).1 (exponent_is_least.gives_unit g p)

  -- the exponent divides each common multiple of the orders
  pub exponent_divides_multiple : (m : ℕ) → ((g : ℕ) → g < n → order_of n op unit g ∣ m) → exponent_of n op unit ∣ m
  exponent_divides_multiple m each = (exponent_divides m).1 (λ g p. (order_divides g m p).0 (each g p))
