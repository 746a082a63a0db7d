-- How blocks of rows match the conjugacy classes of a group: one for each class, in order.
use Rattle.std.specs.Prelude.{ℕ, ◌==◌, List, length, Option, Some, None, if◌then◌else◌}
use Rattle.scan.specs.First.{first, option_or}
use Rattle.group_table.specs.Group.{Table}
use Rattle.classes.specs.Conjugacy.{representatives, representative_at, centraliser_of}
use Rattle.qd_ring.specs.RowLists.{row_at}
use Rattle.qd_doc.specs.Blocks.{Block, block_at}
use Rattle.data_print.specs.declared.cause.ShapeFault.{ShapeFault}
use Rattle.data_print.specs.declared.cause.ShapeFault.TheVariants.{Blocks, Representative, Width}

-- nothing where the two numbers are the same, else the fault that names them
abbrev pub unless_same : ℕ → ℕ → (ℕ → ℕ → ShapeFault) → Option ShapeFault
unless_same given wanted fault = if given == wanted then None else Some (fault given wanted)

-- as many blocks as classes
abbrev pub blocks_fault : Table → List Block → Option ShapeFault
blocks_fault t blocks = unless_same (length blocks) (length (representatives t)) Blocks

-- the number of block b is the representative of class b
abbrev pub representative_fault_at : Table → List Block → ℕ → Option ShapeFault
representative_fault_at t blocks b = unless_same (block_at blocks b).representative (representative_at t b) (Representative b)

abbrev pub representative_fault : Table → List Block → Option ShapeFault
representative_fault t blocks = first (length blocks) (representative_fault_at t blocks)

-- row r of block b has a value for each element of the centraliser
abbrev pub width_fault_at : Table → List Block → ℕ → ℕ → Option ShapeFault
width_fault_at t blocks b r =
    unless_same (length (row_at (block_at blocks b).rows r)) (length (centraliser_of t (representative_at t b))) (Width b r)

abbrev pub width_fault_in : Table → List Block → ℕ → Option ShapeFault
width_fault_in t blocks b = first (length (block_at blocks b).rows) (width_fault_at t blocks b)

abbrev pub width_fault : Table → List Block → Option ShapeFault
width_fault t blocks = first (length blocks) (width_fault_in t blocks)

-- the first way in which the blocks don't match the classes, at its least place
unfoldable pub shape_fault : Table → List Block → Option ShapeFault
shape_fault t blocks = option_or (blocks_fault t blocks) (option_or (representative_fault t blocks) (width_fault t blocks))
