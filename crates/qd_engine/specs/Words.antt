-- The grammar of the program's words, which follow its name, and the table of its commands.
use Rattle.std.specs.Prelude.{ℕ, List, [], ◌∷◌, map, codes, Bool, true, false, ◌&&◌, nat_le, Option, Some, None, if◌then◌else◌, String, string_bytes}
use Rattle.std.specs.List.{list_any}
use Rattle.std.specs.Option.{option_map, option_and_then}
use Rattle.std.specs.Global.{Global}
use Rattle.qd_doc.specs.Kinds.{is_word}
use Rattle.qd_doc.specs.declared.document.Form.{Form}
use Rattle.qd_doc.specs.declared.document.Form.TheVariants.{Bare, WithCharacters}
use Rattle.named_cocycles.specs.declared.maker.Maker.{Maker}
use Rattle.named_cocycles.specs.Samples.{sample_modulus}
use Rattle.qd_engine.specs.MakerWords.{numbers_of, maker_of}
use Rattle.qd_engine.specs.declared.command.Input.{Input}
use Rattle.qd_engine.specs.declared.command.Input.TheVariants.{Read, Made, Sampled}
use Rattle.qd_engine.specs.declared.command.Part.TheVariants as front_parts
use Rattle.qd_engine.specs.declared.command.RowPart.{RowPart}
use Rattle.qd_engine.specs.declared.command.RowPart.TheVariants as row_parts
use Rattle.qd_engine.specs.declared.command.RowSource.{RowSource}
use Rattle.qd_engine.specs.declared.command.RowSource.TheVariants.{Stated, Lifted}
use Rattle.qd_engine.specs.declared.command.RowReport.{RowReport}
use Rattle.qd_engine.specs.declared.command.Command.{Command}

-- the bytes of each word
abbrev pub texts : List (String Global) → List (List ℕ)
texts words = map string_bytes words

-- ---- the reports

-- whether a document has a group and a normalised 3-cocycle of it
abbrev pub check_command : Command
check_command = record { input = Read; parts = front_parts.Head ∷ front_parts.End ∷ front_parts.Blank ∷ []; rows = None }

-- the conjugacy classes of its group, with the rank of each
abbrev pub classes_command : Command
classes_command = record { input = Read; parts = front_parts.Head ∷ front_parts.Classes ∷ front_parts.End ∷ []; rows = None }

-- the simples by the rows that it states, where these are good tables of the classes, and their matrix S
abbrev pub verify_command : Command
verify_command = record {
  input = Read;
  parts = front_parts.Head ∷ front_parts.Classes ∷ front_parts.Blank ∷ [];
  rows = Some (record {
    source = Stated;
    parts = row_parts.Conductor ∷ row_parts.Simples ∷ row_parts.S ∷ row_parts.End ∷ row_parts.Blank ∷ row_parts.Blank ∷ row_parts.Blank ∷ [];
  });
}

-- the simples by rows that are lifted from a modulus, with these parts after their lines
abbrev pub lifted : ℕ → List RowPart → Command
lifted q after = record {
  input = Read;
  parts = front_parts.Head ∷ front_parts.Classes ∷ front_parts.Blank ∷ [];
  rows = Some (record {
    source = Lifted q;
    parts = row_parts.Conductor ∷ row_parts.Modulus ∷ row_parts.Simples ∷ after;
  });
}

-- a document with the rows that are lifted from a modulus
abbrev pub certificate : ℕ → Command
certificate q = record {
  input = Read;
  parts = front_parts.Blank ∷ front_parts.Blank ∷ front_parts.Blank ∷ [];
  rows = Some (record {
    source = Lifted q;
    parts = row_parts.Document ∷ row_parts.Blank ∷ row_parts.Blank ∷ row_parts.Blank ∷ row_parts.Blank ∷ row_parts.Blank ∷ row_parts.Blank ∷ [];
  });
}

-- the document of the group and of the cocycle that a maker names
abbrev pub generate : Maker → Command
generate maker = record {
  input = Made maker;
  parts = front_parts.Document ∷ front_parts.Blank ∷ front_parts.Blank ∷ [];
  rows = None;
}

-- a summary of the fusion numbers of sample s
abbrev pub sample : ℕ → Command
sample s = record {
  input = Sampled s;
  parts = front_parts.Blank ∷ front_parts.Blank ∷ front_parts.Blank ∷ [];
  rows = Some (record {
    source = Lifted (sample_modulus s);
    parts = row_parts.Summary s ∷ row_parts.End ∷ row_parts.Blank ∷ row_parts.Blank ∷ row_parts.Blank ∷ row_parts.Blank ∷ row_parts.Blank ∷ [];
  });
}

-- a part says something of fusion numbers
abbrev pub has_numbers : RowPart → Bool
has_numbers row_parts.Fusion = true
has_numbers (row_parts.Indicators order) = true
has_numbers (row_parts.Summary s) = true
has_numbers part = false

-- some part does
abbrev pub have_numbers : List RowPart → Bool
have_numbers parts = list_any has_numbers parts

-- the most simples that a report with these parts takes
abbrev pub most_simples : List RowPart → ℕ
most_simples parts = if have_numbers parts then 64 else 256

-- ---- the grammar

-- the command of a word that stands alone
abbrev pub alone : List ℕ → Option Command
alone word =
    if is_word word (codes "check") then Some check_command
    else if is_word word (codes "classes") then Some classes_command
    else if is_word word (codes "verify") then Some verify_command
    else None

-- the command of a word that a number q follows: a modulus, or that of a sample
abbrev pub with_number : List ℕ → ℕ → Option Command
with_number word q =
    if is_word word (codes "simples") then Some (lifted q (row_parts.End ∷ row_parts.Blank ∷ row_parts.Blank ∷ row_parts.Blank ∷ []))
    else if is_word word (codes "data") then Some (lifted q (row_parts.S ∷ row_parts.End ∷ row_parts.Blank ∷ row_parts.Blank ∷ []))
    else if is_word word (codes "fusion") then Some (lifted q (row_parts.S ∷ row_parts.Fusion ∷ row_parts.End ∷ row_parts.Blank ∷ []))
    else if is_word word (codes "certificate") then Some (certificate q)
    else if is_word word (codes "sample") then Some (sample q)
    else None

-- the command of a word that a modulus q and an order m follow
abbrev pub with_order : List ℕ → ℕ → ℕ → Option Command
with_order word q m =
    if is_word word (codes "indicators") && nat_le 1 m
    then Some (lifted q (row_parts.S ∷ row_parts.Fusion ∷ row_parts.Indicators m ∷ row_parts.End ∷ []))
    else None

-- the command of a word that these numbers follow
abbrev pub report_by : List ℕ → List ℕ → Option Command
report_by word [] = alone word
report_by word (q ∷ []) = with_number word q
report_by word (q ∷ m ∷ []) = with_order word q m
report_by word (q ∷ m ∷ next ∷ rest) = None

-- the same by the words of the numbers
abbrev pub report_of_words : List ℕ → List (List ℕ) → Option Command
report_of_words word numbers = option_and_then (report_by word) (numbers_of numbers)

-- the command of `gen` and the words that name a group with a cocycle, or of another word and its numbers
abbrev pub command_by : List ℕ → List (List ℕ) → Option Command
command_by word words =
    if is_word word (codes "gen") then option_map generate (maker_of words) else report_of_words word words

-- the command that the words ask for
abbrev pub command_of : List (List ℕ) → Option Command
command_of [] = None
command_of (word ∷ words) = command_by word words

-- the group and the cocycle are those of a document that is read
abbrev pub is_read : Input → Bool
is_read Read = true
is_read (Made maker) = false
is_read (Sampled s) = false

abbrev pub is_reading : Option Command → Bool
is_reading None = false
is_reading (Some command) = is_read command.input

-- the words are a command that reads, and so the source is read
abbrev pub reads_by : List (List ℕ) → Bool
reads_by words = is_reading (command_of words)

-- what is read of a source that has this left, where it tells that: all of it, or else nothing
abbrev pub read_of : List (List ℕ) → Option (List ℕ) → Option (List ℕ)
read_of words left = if reads_by words then left else Some []

-- the form of document that a command reads: with characters, where the document states its rows
abbrev pub form_by : RowSource → Form
form_by Stated = WithCharacters
form_by (Lifted q) = Bare

abbrev pub form_for : Option RowReport → Form
form_for None = Bare
form_for (Some report) = form_by report.source

abbrev pub form_of : Command → Form
form_of command = form_for command.rows
