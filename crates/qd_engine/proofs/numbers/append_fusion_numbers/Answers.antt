use Rattle.qd_engine.proofs.Names.{◌≡◌, ◌++◌, sym, subst, ◌∙◌, OnOk, WebEntries, numbers_text, HasWeb}
use Rattle.std.specs.Prelude.{Option}
use Rattle.qd_engine.proofs.NumberLines.{web_text, web_is}
use Rattle.qd_engine.proofs.numbers.append_fusion_numbers.Goals as goal

pub returns-in-Some : goal.returns-in-Some
returns-in-Some g c =
    let s = c.args.simples.now in
    let rows = c.args.rows.now in
    let web = c.in-Some.web in
    let has = subst (λ (o : Option WebEntries). HasWeb g.row.K s rows o) c.in-Some.is c.requires.web in
    let (same, is) = web_is g.row.K s rows web (numbers_text g.row.K s) has in
    record {
      added = subst (λ text. OnOk c.append_fusion.result (c.append_fusion.new.out.items ≡ c.args.out.now.items ++ text)) (web_text g.row.K s web is ∙ sym same) c.append_fusion.ensures.added;
    }
