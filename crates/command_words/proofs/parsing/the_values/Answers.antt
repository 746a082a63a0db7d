use Rattle.command_words.proofs.Names.{◌≡◌, List, [], None, Option, Some, codes, refl, sym, ap, ◌∙◌, unwrap_or, IfOk-weaker, Text, texts, rows_of, all_of, found_of, raw_values-rows}
use Rattle.command_words.proofs.parsing.the_values.Goals as goal

pub returns-in-Some : goal.returns-in-Some
returns-in-Some c =
    let found = found_of c.args.matches.now in
    let all : all_of (codes "values") (rows_of found) ≡ Some (texts c.in-Some.values.now) =
    sym (raw_values-rows found (codes "values")) ∙ sym c.in-Some.ensures in
    record {
      values = IfOk-weaker c.copied.result _ _ (λ copies same. same ∙ sym (ap (λ (o : Option (List Text)). unwrap_or o []) all)) c.copied.ensures.same;
    }

pub returns-in-None : goal.returns-in-None
returns-in-None c =
    let found = found_of c.args.matches.now in
    let nothing : all_of (codes "values") (rows_of found) ≡ None = sym (raw_values-rows found (codes "values")) ∙ sym c.in-None.ensures in
    record { values = rw (c.new.ensures.items, nothing) refl }
