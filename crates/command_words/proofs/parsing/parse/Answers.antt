use Rattle.command_words.proofs.Names.{ap, ◌∙◌, texts, App, is_simple, matches_of, takes}
use Rattle.command_words.proofs.Parsed.{is_simple_line, takes_plain, found_plain}
use Rattle.command_words.proofs.parsing.parse.Goals as goal

pub unreachable-requires : goal.unreachable-requires
unreachable-requires c =
    let all = texts c.args.all.now in
    let taken = ap (λ (line : App). takes line all) c.in_ok-line.ensures.line ∙ takes_plain all c.requires.plain in
    c.in_default.not-OutOfMemory (c.kind.ensures ∙ c.in-Err.ensures.passes taken)

pub returns-in-Ok : goal.returns-in-Ok
returns-in-Ok c =
    let all = texts c.args.all.now in
    let line = c.in_ok-line.ensures.line in
    let found = c.in-Ok.ensures.matches (ap is_simple line ∙ is_simple_line) in
    record { found = found.0 ∙ ap (λ (line : App). matches_of line all) line ∙ found_plain all c.requires.plain }
