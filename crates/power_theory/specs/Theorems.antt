-- The laws that the crate's law functions carry. A ring is taken on the natural numbers, as every countably infinite one is up
-- to names, and a finite group on the numbers below its size.
use Rattle.std.specs.Prelude.{◌≡◌, ℕ, ◌<◌}
use Rattle.algebra.specs.Structures.{CommRing}
use Rattle.algebra.specs.Sums.{power}
use Rattle.algebra.specs.Totals.{Finite}
use Rattle.algebra.specs.Groups.{Group}
use Rattle.algebra.specs.Below.{Below}
use Rattle.power_theory.specs.Rings.{Ring, ring_power}
use Rattle.power_theory.specs.Traces.{Trace, HasCharacteristic}
use Rattle.power_theory.specs.CrossedProducts.{CrossedProduct}

-- in characteristic q the traces of a^q and b^q add up to that of (a + b)^q, whether or not a and b commute
abbrev pub PowersOfSums : Type 0
PowersOfSums =
    (R : Ring ℕ) (S : CommRing ℕ) (t : Trace R S) (q : ℕ) → HasCharacteristic S q → 0 < q → (a b : ℕ)
    → t.trace (ring_power R (R.add a b) q) ≡ S.add (t.trace (ring_power R a q)) (t.trace (ring_power R b q))

-- in characteristic q over the size of the group, where the numbers and the u_x are their own q-th powers, so is each element
-- that commutes with every u_x
abbrev pub CentralPowersFixed : Type 0
CentralPowersFixed =
    (n : ℕ) (R : CommRing ℕ) (F : Finite (Below n)) (P : Group (Below n)) (T : Ring ℕ) (K : CrossedProduct R F P T)
    → (q : ℕ) → HasCharacteristic R q → F.size < q
    → ((c : ℕ) → power R c q ≡ c) → ((x : Below n) → ring_power T (K.unit x) q ≡ K.unit x)
    → (z : ℕ) → ((x : Below n) → T.mul z (K.unit x) ≡ T.mul (K.unit x) z) → ring_power T z q ≡ z
