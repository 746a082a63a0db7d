use Rattle.table_check.proofs.Names.{◌≤◌, ◌*◌, ◌<◌, length, subst, sym, ◌∙◌, ap, is_some, false≢true, ap₂, cyclotomic_value, identity_of, size, degree_of, RowsOver, characters_of}
use Rattle.table_check.proofs.Good.{clauses, degree_is, degree_there}
use Rattle.table_check.proofs.table.Table.degree.Goals as goal

pub unreachable-requires : goal.unreachable-requires
unreachable-requires g c =
    let t = c.self.inside.candidate in
    let table = characters_of g.row.K t.rows in
    let row : c.args.i < length t.rows = subst (λ (u : RowsOver). c.args.i < length u.rows) (sym c.self.view_is) c.requires.i_below in
    false≢true (ap is_some (c.in-None.ensures.degree ∙ ap₂ (λ m u. degree_of g.row.K m u) (c.size.ensures.size ∙ ap (λ s. size s) c.over.ensures.over) c.degree.ensures.degree) ∙ degree_is t.over table c.args.i (clauses t.over table c.self.invariant.1).degree row)

pub returns-clause-positive : goal.returns-clause-positive
returns-clause-positive g c = (degree_there g.row.K c.size.result c.in-Some.degree (cyclotomic_value g.row.K c.degree.result.coefficients) (sym c.in-Some.ensures.degree)).0

pub returns-clause-square : goal.returns-clause-square
returns-clause-square g c =
    subst (λ m. c.in-Some.degree * c.in-Some.degree ≤ m) (c.size.ensures.size ∙ ap (λ s. size s) c.over.ensures.over ∙ ap (λ (t : RowsOver). size t.over) c.self.view_is)
    (degree_there g.row.K c.size.result c.in-Some.degree (cyclotomic_value g.row.K c.degree.result.coefficients) (sym c.in-Some.ensures.degree)).1

pub returns-clause-value : goal.returns-clause-value
returns-clause-value g c =
    ap (λ (t : RowsOver). (characters_of g.row.K t.rows).chi c.args.i (identity_of t.over.group)) (sym c.self.view_is)
    ∙ sym c.degree.ensures.degree
    ∙ (degree_there g.row.K c.size.result c.in-Some.degree (cyclotomic_value g.row.K c.degree.result.coefficients) (sym c.in-Some.ensures.degree)).2
