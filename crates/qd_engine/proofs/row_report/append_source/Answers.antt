use Rattle.qd_engine.proofs.Names.{sym, ap, subst, Given, given_or_none, AddsRows, RowSource, Stated}
use Rattle.qd_engine.proofs.row_report.append_source.Goals as goal

pub returns-in-Lifted : goal.returns-in-Lifted
returns-in-Lifted c =
    let old = c.args.out.now.items in
    let parts = c.args.report.now.parts in
    let given = given_or_none c.args.characters.now in
    record { follows = subst (λ (source : RowSource). AddsRows source c.args.w given parts old c.append_lifted.new.out.items c.append_lifted.result) (sym c.in-Lifted.is) c.append_lifted.ensures.follows }

pub returns-in-Some : goal.returns-in-Some
returns-in-Some c =
    let old = c.args.out.now.items in
    let new = c.append_stated.new.out.items in
    let parts = c.args.report.now.parts in
    let given = given_or_none c.args.characters.now in
    let stated = subst (λ (given : Given). AddsRows Stated c.args.w given parts old new c.append_stated.result) (sym (ap given_or_none c.in-Some.is)) c.append_stated.ensures.follows in
    record { follows = subst (λ (source : RowSource). AddsRows source c.args.w given parts old new c.append_stated.result) (sym c.in-Stated.is) stated }
