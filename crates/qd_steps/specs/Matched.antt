-- Blocks of rows that match the conjugacy classes of a group, one for each class, in order; and their values.
use Rattle.std.specs.Prelude.{◌≡◌, ℕ, ◌<◌, List, length, All}
use Rattle.group_table.specs.Group.{Table}
use Rattle.classes.specs.Conjugacy.{representatives, representative_at, centraliser_of}
use Rattle.qd_ring.specs.RowLists.{row_at}
use Rattle.qd_doc.specs.Blocks.{Block, block_at}
use Rattle.qd_doc.specs.Contents.{IsValueOf}

-- the blocks match the classes
pub record IsMatched (t : Table) (blocks : List Block) : Type 0 where
  pub count : length blocks ≡ length (representatives t)
  pub representative : (b : ℕ) → b < length blocks → (block_at blocks b).representative ≡ representative_at t b
  pub width : (b r : ℕ) → b < length blocks → r < length (block_at blocks b).rows
      → length (row_at (block_at blocks b).rows r) ≡ length (centraliser_of t (representative_at t b))

-- the values of their rows are values of the conductor k
abbrev pub HaveValuesOf : ℕ → List Block → Type 0
HaveValuesOf k blocks = All (λ (block : Block). All (λ row. All (IsValueOf k) row) block.rows) blocks
