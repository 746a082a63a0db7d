-- Finite types, and sums over all their elements (textbook).
use Rattle.std.specs.Prelude.{◌≡◌, ℕ, ◌<◌, Bool, nat_eq}
use Rattle.algebra.specs.Structures.{CommRing}
use Rattle.algebra.specs.Sums.{sum_below}

-- a type that is numbered by 0 .. size - 1
pub record Finite (G : Type 0) : Type 0 where
  pub size : ℕ
  pub at : ℕ → G
  pub index : G → ℕ
  pub index_below : (x : G) → index x < size
  pub at_index : (x : G) → at (index x) ≡ x
  pub index_at : (i : ℕ) → i < size → index (at i) ≡ i

-- whether two elements are one
unfoldable pub equals : {G : Type 0} → Finite G → G → G → Bool
equals F x y = nat_eq (F.index x) (F.index y)

-- the sum of f over all elements
unfoldable pub total : {A G : Type 0} → CommRing A → Finite G → (G → A) → A
total R F f = sum_below R F.size (λ i. f (F.at i))
