use Rattle.fusion_web.proofs.Names.{◌≡◌, ◌∙◌, ◌∷◌, Some, length, sym, ap, rules, Entry, row_rest}
use Rattle.fusion_web.proofs.WalkLaws.{row_step}
use Rattle.fusion_web.proofs.walks.RowWalkIterator.next.Goals as goal

pub returns-clause-steps : goal.returns-clause-steps
returns-clause-steps c =
    let web = c.self.inside.web.now in
    let next = c.step-next.result.1 in
    let began : row_rest web (Some c.in-Some.place) ≡ c.args.self.now = ap (row_rest web) (sym c.in-Some.is) ∙ c.self.view_is in
    sym began ∙ row_step web c.self.invariant.over c.in-Some.place next (c.self.invariant.inside c.in-Some.place c.in-Some.is) c.step-next.ensures.next
    ∙ ap (λ (e : Entry). (e.k, e.count) ∷ row_rest web next) (sym c.step-next.ensures.entry)

pub returns-clause-goes : goal.returns-clause-goes
returns-clause-goes c = let steps = ap length (returns-clause-steps c) in search rules
