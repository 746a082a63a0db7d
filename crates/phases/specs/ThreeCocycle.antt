-- 3-cocycles of a group whose elements are a type.
use Rattle.std.specs.Prelude.{◌≡◌, ℕ, ◌+◌, ◌<◌}
use Rattle.algebra.specs.Groups.{Group}
use Rattle.algebra.specs.Congruences.{Same}

-- w is a normalised 3-cocycle with exponents below n (Dijkgraaf, Witten 1990)
pub record ThreeCocycle {G : Type 0} (P : Group G) (n : ℕ) (w : G → G → G → ℕ) : Type 0 where
  pub below : (g h k : G) → w g h k < n
  pub law : (g h k l : G) → Same n (w g h k + w g (P.op h k) l + w h k l) (w (P.op g h) k l + w g h (P.op k l))
  pub first_one : (h k : G) → w P.one h k ≡ 0
  pub second_one : (g k : G) → w g P.one k ≡ 0
  pub third_one : (g h : G) → w g h P.one ≡ 0
