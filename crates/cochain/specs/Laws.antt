-- What a normalised 3-cocycle is, by plain equations (Dijkgraaf, Witten 1990), and that the check of exponents is no stricter.
use Rattle.std.specs.Prelude.{◌≡◌, ℕ, ◌+◌, ◌%◌, ◌<◌, ◌↔◌}
use Rattle.algebra.specs.Congruences.{Same}
use Rattle.group_table.specs.Group.{product, identity_of}
use Rattle.cochain.specs.Cochain.{Cochain, value, IsCochain, IsCocycle}

-- the plain laws, of exponents modulo the number of roots on the elements of a group below n
pub record IsLawful (n : ℕ) (op : ℕ → ℕ → ℕ) (e roots : ℕ) (at : ℕ → ℕ → ℕ → ℕ) : Type 0 where
  pub first : (h k : ℕ) → h < n → k < n → at e h k % roots ≡ 0
  pub second : (g k : ℕ) → g < n → k < n → at g e k % roots ≡ 0
  pub third : (g h : ℕ) → g < n → h < n → at g h e % roots ≡ 0
  pub closed : (g h k l : ℕ) → g < n → h < n → k < n → l < n
      → Same roots (at g h k + at g (op h k) l + at h k l) (at (op g h) k l + at g h (op k l))

-- a cochain is a normalised 3-cocycle exactly where its exponents meet these laws
abbrev pub CocycleExactly : Type 0
CocycleExactly =
    (w : Cochain) → IsCochain w →
    IsCocycle w ↔ IsLawful w.group.order (product w.group) (identity_of w.group) w.roots (value w)
