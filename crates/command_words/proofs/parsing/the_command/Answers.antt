use Rattle.command_words.proofs.Names.{◌≡◌, None, Some, codes, sym, ap, ◌∙◌, IfOk-weaker, rows_of, first_of, found_of, first_value-rows}
use Rattle.command_words.proofs.parsing.the_command.Goals as goal

pub unreachable-requires : goal.unreachable-requires
unreachable-requires c =
    let found = found_of c.args.matches.now in
    let nothing : first_of (codes "command") (rows_of found) ≡ None = sym (first_value-rows found (codes "command")) ∙ sym c.in_default.ensures in
    let given = rw nothing at c.requires.given in
    absurd cc

pub returns : goal.returns
returns c =
    let found = found_of c.args.matches.now in
    let first : first_of (codes "command") (rows_of found) ≡ Some c.in-Some.command.now =
    sym (first_value-rows found (codes "command")) ∙ sym c.in-Some.ensures in
    record { command = IfOk-weaker c.from_str.result _ _ (λ text same. first ∙ ap Some (sym same)) c.from_str.ensures.ok }
