use Rattle.table_check.proofs.Names.{◌≡◌, rules, ◌<◌, length, subst, sym, ◌∙◌, ap, is_some, false≢true, RowsOver, characters_of, twist_left, twist_right}
use Rattle.table_check.proofs.Good.{clauses, twist_is, twist_there}
use Rattle.table_check.proofs.table.Table.twist.Goals as goal

pub twist_of-requires : goal.twist_of-requires
twist_of-requires g c =
    let t = c.self.inside.candidate in
    let table = characters_of g.row.K t.rows in
    let row : c.args.i < length t.rows = subst (λ (u : RowsOver). c.args.i < length u.rows) (sym c.self.view_is) c.requires.i_below in
    (search rules, (row, (twist_is t.over table c.args.i (clauses t.over table c.self.invariant.1).twist row).0))

pub unreachable-requires : goal.unreachable-requires
unreachable-requires g c =
    let t = c.self.inside.candidate in
    let table = characters_of g.row.K t.rows in
    let row : c.args.i < length t.rows = subst (λ (u : RowsOver). c.args.i < length u.rows) (sym c.self.view_is) c.requires.i_below in
    false≢true (ap is_some c.in-None.ensures.twist ∙ (twist_is t.over table c.args.i (clauses t.over table c.self.invariant.1).twist row).1)

pub returns-clause-below : goal.returns-clause-below
returns-clause-below g c =
    let t = c.self.inside.candidate in
    (twist_there t.over (characters_of g.row.K t.rows) c.args.i c.in-Some.twist (sym c.in-Some.ensures.twist)).0

pub returns-clause-value : goal.returns-clause-value
returns-clause-value g c =
    let t = c.self.inside.candidate in
    subst (λ (u : RowsOver). (twist_left u.over (characters_of g.row.K u.rows) c.args.i).value ≡ (twist_right u.over (characters_of g.row.K u.rows) c.args.i c.in-Some.twist).value) c.self.view_is
    (twist_there t.over (characters_of g.row.K t.rows) c.args.i c.in-Some.twist (sym c.in-Some.ensures.twist)).1
