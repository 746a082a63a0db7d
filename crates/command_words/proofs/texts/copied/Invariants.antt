use Rattle.std.specs.Prelude.{◌≡◌, map, take, string_bytes}
use Rattle.clap.specs.Walk.{texts}
use Rattle.command_words.proofs.texts.copied.Given as goal

-- copies of the texts so far
abbrev pub invariant-loop-text : goal.invariant-loop-text
invariant-loop-text l = map string_bytes l.copies.items ≡ texts (take l.text-index l.list)
