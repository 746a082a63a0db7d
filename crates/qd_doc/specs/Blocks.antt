-- Blocks of rows of values.
use Rattle.std.specs.Prelude.{ℕ, ◌-◌, ℤ, List, [], ◌∷◌, ◌++◌, length, slice_index_or, slice_set}
use Rattle.qd_ring.specs.RowLists.{with_value as rows_with_value}

-- a block: its number, and its rows; a row is a list of values, each the list of its 42 coefficients
pub record Block : Type 0 where
  pub representative : ℕ
  pub rows : List (List (List ℤ))

-- the block with this number and these rows
abbrev pub block : ℕ → List (List (List ℤ)) → Block
block representative rows = record { representative = representative; rows = rows }

-- the block at place b
abbrev pub block_at : List Block → ℕ → Block
block_at blocks b = slice_index_or blocks b (block 0 [])

-- the rows of the last block
abbrev pub last_rows : List Block → List (List (List ℤ))
last_rows blocks = (block_at blocks (length blocks - 1)).rows

-- the blocks with these rows in the last of them
abbrev pub with_last_rows : List Block → List (List (List ℤ)) → List Block
with_last_rows blocks rows = slice_set blocks (length blocks - 1) (block (block_at blocks (length blocks - 1)).representative rows)

-- the blocks with one more row, which has no value, at the end of the last of them
abbrev pub with_row : List Block → List Block
with_row blocks = with_last_rows blocks (last_rows blocks ++ [] ∷ [])

-- the blocks with one more value at the end of the last row of the last of them
abbrev pub with_value : List Block → List ℤ → List Block
with_value blocks v = with_last_rows blocks (rows_with_value (last_rows blocks) v)
