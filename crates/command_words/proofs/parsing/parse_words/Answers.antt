use Rattle.command_words.proofs.Names.{◌≡◌, ◌∷◌, List, codes, map, ap, ◌∙◌, drop, string_bytes, Text, texts, rows_of, found_of, found_in}
use Rattle.command_words.proofs.Parsed.{has_command, words_found}
use Rattle.command_words.proofs.parsing.parse_words.Goals as goal

pub the_command-requires : goal.the_command-requires
the_command-requires c =
    let words = map string_bytes c.args.words.now in
    let named : texts c.deref.result.now ≡ codes "qdouble" ∷ words = ap texts c.deref.ensures.value ∙ c.in_ok-all.ensures.named in
    let found : rows_of (found_of c.in_ok-matches.matches) ≡ found_in words =
    c.in_ok-matches.ensures.found ∙ ap (λ (all : List Text). found_in (drop 1 all)) named in
    record { given = rw found (has_command words c.requires.plain) }

pub returns : goal.returns
returns c =
    let words = map string_bytes c.args.words.now in
    let named : texts c.deref.result.now ≡ codes "qdouble" ∷ words = ap texts c.deref.ensures.value ∙ c.in_ok-all.ensures.named in
    let found : rows_of (found_of c.in_ok-matches.matches) ≡ found_in words =
    c.in_ok-matches.ensures.found ∙ ap (λ (all : List Text). found_in (drop 1 all)) named in
    record {
      same = words_found words _ _ c.requires.plain (rw found at c.in_ok-command.ensures.command) (rw found at c.in_ok-values.ensures.values);
    }
