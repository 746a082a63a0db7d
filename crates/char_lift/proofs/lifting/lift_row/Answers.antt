use Rattle.char_lift.proofs.Names.{◌≡◌, [], ◌∷◌, ◌++◌, Some, None, sym, ap, ◌∙◌, subst, ap₂, OnOk, IfErr, least_degree, degree_of, Refuses, NoDegree}
use Rattle.char_lift.proofs.FaultLaws.{row_without, row_with, row_is}
use Rattle.char_lift.proofs.lifting.lift_row.Goals as goal

pub returns-in_default-clause-refused : goal.returns-in_default-clause-refused
returns-in_default-clause-refused g c =
    let s = c.args.twist.now in
    let f = c.args.powers.now in
    row_without s f.q f.conductor f.root c.args.row c.args.ratios.now
    (sym (ap₂ (least_degree f.q) c.size.ensures.size c.degree_sum-s.ensures.sum) ∙ sym c.least_degree.ensures.least ∙ c.in_default.is)
    ∙ ap (λ t. Some (NoDegree c.args.row t)) (sym c.degree_sum-s.ensures.sum)

pub returns-clause-faultless : goal.returns-clause-faultless
returns-clause-faultless g c =
    let s = c.args.twist.now in
    let f = c.args.powers.now in
    let degree : degree_of s f.q f.conductor f.root c.args.ratios.now ≡ Some c.in-Some.degree =
    sym (ap₂ (least_degree f.q) c.size.ensures.size c.degree_sum-s.ensures.sum) ∙ sym c.least_degree.ensures.least ∙ c.in-Some.is in
    subst (λ o. OnOk c.push_row.result (o ≡ None)) (sym (row_with s f.q f.conductor f.root c.args.row c.args.ratios.now c.in-Some.degree degree)) c.push_row.ensures.faultless

pub returns-clause-added : goal.returns-clause-added
returns-clause-added g c =
    let s = c.args.twist.now in
    let f = c.args.powers.now in
    let degree : degree_of s f.q f.conductor f.root c.args.ratios.now ≡ Some c.in-Some.degree =
    sym (ap₂ (least_degree f.q) c.size.ensures.size c.degree_sum-s.ensures.sum) ∙ sym c.least_degree.ensures.least ∙ c.in-Some.is in
    subst (λ r. OnOk c.push_row.result (c.push_row.new.rows ≡ c.args.rows.now ++ r ∷ [])) (sym (row_is s f.q f.conductor f.root c.args.ratios.now c.in-Some.degree degree)) c.push_row.ensures.added

pub returns-clause-refused : goal.returns-clause-refused
returns-clause-refused g c =
    let s = c.args.twist.now in
    let f = c.args.powers.now in
    let degree : degree_of s f.q f.conductor f.root c.args.ratios.now ≡ Some c.in-Some.degree =
    sym (ap₂ (least_degree f.q) c.size.ensures.size c.degree_sum-s.ensures.sum) ∙ sym c.least_degree.ensures.least ∙ c.in-Some.is in
    subst (λ o. IfErr c.push_row.result (λ why. Refuses why o)) (sym (row_with s f.q f.conductor f.root c.args.row c.args.ratios.now c.in-Some.degree degree)) c.push_row.ensures.refused
