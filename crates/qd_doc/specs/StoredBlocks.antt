-- Blocks that are stored as stretches of rows, and these as stretches of values.
use Rattle.std.specs.Prelude.{ℕ, ◌+◌, ◌<◌, ◌^◌, ℤ, List, length, drop, slice_index_or}
use Rattle.qd_doc.specs.declared.head.Head.{Head}
use Rattle.qd_doc.specs.Stretches.{first_start, AreInOrder, stretches}
use Rattle.qd_doc.specs.Blocks.{Block, block}

-- the head of block b
abbrev pub head_at : List Head → ℕ → Head
head_at heads b = slice_index_or heads b (record { representative = 0; start = 0 })

-- where the rows of block b end, of so many in all
abbrev pub rows_end : List Head → ℕ → ℕ → ℕ
rows_end heads b all = first_start (λ (head : Head). head.start) (drop (b + 1) heads) all

-- a row begins at each start
abbrev pub rows_of : List ℕ → List (List ℤ) → List (List (List ℤ))
rows_of starts values = stretches (λ start. start) (λ start row. row) starts values

-- a block begins at each head
abbrev pub stored_blocks : List Head → List ℕ → List (List ℤ) → List Block
stored_blocks heads starts values =
    stretches (λ (head : Head). head.start) (λ (head : Head) rows. block head.representative rows) heads (rows_of starts values)

-- the heads and the starts of rows are in order
pub record AreBlocks (heads : List Head) (starts : List ℕ) (values : List (List ℤ)) : Type 0 where
  pub blocks : AreInOrder (λ (head : Head). head.start) heads (length starts)
  pub rows : AreInOrder (λ start. start) starts (length values)
  pub few_blocks : length heads < 2 ^ 32
  pub few_rows : length starts < 2 ^ 32
