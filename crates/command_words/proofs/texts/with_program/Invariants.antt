use Rattle.std.specs.Prelude.{◌≡◌, ◌∷◌, map, take, codes, string_bytes}
use Rattle.clap.specs.Walk.{texts}
use Rattle.command_words.proofs.texts.with_program.Given as goal

-- the program's name and the words so far
abbrev pub invariant-loop-word : goal.invariant-loop-word
invariant-loop-word l = texts l.all.items ≡ codes "qdouble" ∷ map string_bytes (take l.word-index l.words)
