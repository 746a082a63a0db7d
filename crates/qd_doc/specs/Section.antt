-- The parts that a reader takes the section of characters apart into, for the contracts of the private
-- steps. What the section is stands in Grammar and Contents.
use Rattle.std.specs.Prelude.{ℕ, ◌<◌, Bool, true, false, if◌then◌else◌, List, [], ◌∷◌, ◌++◌, length, codes, Option, Some, None, Result, Ok, Err}
use Rattle.qd_doc.specs.declared.refusal.DocRefusal.{DocRefusal}
use Rattle.qd_text.specs.Numbers.{value}
use Rattle.qd_doc.specs.Blocks.{Block, block, last_rows, with_row, with_value}
use Rattle.qd_doc.specs.Values.{begins_value, plain, coefficients}
use Rattle.qd_doc.specs.Kinds.{What, Natural, ClassOrEnd, RowClassOrEnd, ValueRowClassOrEnd, is_word}
use Rattle.qd_doc.specs.declared.part.Stage.{Stage}
use Rattle.qd_doc.specs.declared.part.Stage.TheVariants as stages
use Rattle.qd_doc.specs.declared.part.Part.{Part}
use Rattle.qd_doc.specs.declared.part.Part.TheVariants as parts

-- an answer that a refusal may stand in the place of
abbrev pub unless : {A : Type 0} → Option DocRefusal → A → Result A DocRefusal
unless None x = Ok x
unless (Some r) x = Err r

-- what may stand next, by what was read last; values have phi coefficients
abbrev pub kind_after : ℕ → Stage → What
kind_after phi stages.Conductor = ClassOrEnd
kind_after phi stages.Class = Natural
kind_after phi stages.Number = RowClassOrEnd
kind_after phi stages.Row = ValueRowClassOrEnd phi

-- what a word says that is no value
abbrev pub word_part : List ℕ → Part
word_part text =
    if is_word text (codes "class") then parts.Class else if is_word text (codes "end") then parts.End else parts.Row

-- what a token says, by what was read last
abbrev pub part_of : ℕ → Stage → List ℕ → Part
part_of phi stages.Class text = parts.Number (value text)
part_of phi stages.Conductor text = word_part text
part_of phi stages.Number text = word_part text
part_of phi stages.Row text = if begins_value text then parts.Value (plain (coefficients phi text)) else word_part text

-- what was read last, after a part
abbrev pub stage_of : Part → Stage
stage_of parts.Class = stages.Class
stage_of (parts.Number n) = stages.Number
stage_of parts.Row = stages.Row
stage_of (parts.Value v) = stages.Row
stage_of parts.End = stages.Conductor

-- whether the document ends
abbrev pub is_end : Part → Bool
is_end parts.End = true
is_end part = false

-- the blocks with what a part says
abbrev pub with_part : Part → List Block → List Block
with_part parts.Class blocks = blocks
with_part (parts.Number n) blocks = blocks ++ block n [] ∷ []
with_part parts.Row blocks = with_row blocks
with_part (parts.Value v) blocks = with_value blocks v.coefficients
with_part parts.End blocks = blocks

-- there is a block for a row, and a row for a value
abbrev pub HasPlace : Part → List Block → Type 0
HasPlace parts.Row blocks = 0 < length blocks
HasPlace (parts.Value v) blocks = (0 < length blocks) × (0 < length (last_rows blocks))
HasPlace part blocks = Unit {0}
