-- Rows of a 3-cochain in which it is 1 throughout. Where the rows that the cocycle law at (g,h,k,l) looks into are such,
-- the law holds for every l.
use Rattle.std.specs.Prelude.{◌≡◌, ℕ, ◌+◌, ◌*◌, ◌<◌, Bool, false, ◌&&◌, ◌==◌, List, length, slice_index_or}
use Rattle.scan.specs.First.{all_below}
use Rattle.group_table.specs.Group.{product}
use Rattle.cochain.specs.Cochain.{Cochain, value}

-- w(g,h,k) is 1 for every k
abbrev pub is_zero_row : Cochain → ℕ → ℕ → Bool
is_zero_row w g h = all_below w.group.order (λ k. value w g h k == 0)

-- the rows of w(g,h,k) and w(g,h,kl), of w(h,k,l), of w(g,hk,l) and of w(gh,k,l)
abbrev pub has_zero_rows : Cochain → ℕ → ℕ → ℕ → Bool
has_zero_rows w g h k =
    is_zero_row w g h && is_zero_row w h k && is_zero_row w g (product w.group h k) && is_zero_row w (product w.group g h) k

-- the mark of the row (g,h), at place g n + h, says whether w is 1 throughout it
pub record MarksZeroRows (w : Cochain) (marks : List Bool) : Type 0 where
  pub count : length marks ≡ w.group.order * w.group.order
  pub each : (g h : ℕ) → g < w.group.order → h < w.group.order
      → slice_index_or marks (g * w.group.order + h) false ≡ is_zero_row w g h
