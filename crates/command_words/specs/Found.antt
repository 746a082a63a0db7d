-- What a parse of the program's words finds.
use Rattle.std.specs.Prelude.{List, [], ◌∷◌, Some, None, codes}
use Rattle.clap.specs.Walk.{Row, Text}
use Rattle.clap.specs.Values.{reading_of}
use Rattle.clap.specs.declared.builder.value_parser.ValueParser.TheVariants as parsers
use Rattle.clap.specs.declared.parser.matches.ValueSource.TheVariants.{CommandLine}

-- what the words gave to an argument, as text
abbrev pub row : Text → List Text → Row
row id values = record {
  id = id;
  values = values;
  count = None;
  source = Some CommandLine;
  reading = reading_of parsers.String;
}

-- the values; nothing is found for them where there is none
abbrev pub value_rows : List Text → List Row
value_rows [] = []
value_rows (value ∷ values) = row (codes "values") (value ∷ values) ∷ []

-- the first word is the command, and the others are the values
abbrev pub found_in : List Text → List Row
found_in [] = []
found_in (command ∷ values) = row (codes "command") (command ∷ []) ∷ value_rows values
