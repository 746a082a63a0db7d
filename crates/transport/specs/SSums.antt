-- The matrix S of a twisted quantum double, times the order n of its group (Coste, Gannon, Ruelle 2000; the orientation is this project's).
use Rattle.std.specs.Prelude.{ℕ, ◌*◌, ◌/◌, ◌%◌, Bool, ◌==◌}
use Rattle.group_table.specs.Group.{Table, product, commute}
use Rattle.table_check.specs.Formed.{Formed, conjugated, multiplied, listed, where_so}
use Rattle.transport.specs.Simples.{SimplesOver}
use Rattle.transport.specs.FullCharacters.{full_character}

module _ (k : ℕ) (s : SimplesOver) where
  -- conj(ch_i(g,h)) conj(ch_j(h,g))
  abbrev pub pair_term : ℕ → ℕ → ℕ → ℕ → Formed k
  pair_term i j g h = multiplied k (conjugated k (full_character k s i g h)) (conjugated k (full_character k s j h g))

  -- n S_ij: the sum of these over all g and h that commute, listed by the pairs of elements, row after row
  abbrev pub s_sum : ℕ → ℕ → Formed k
  s_sum i j =
      let n = s.cocycle.group.order in
      listed k (n * n) (λ p. where_so k (commute s.cocycle.group (p / n) (p % n)) (pair_term i j (p / n) (p % n)))
