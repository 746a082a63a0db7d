use Rattle.table_check.proofs.Names.{◌∙◌, false≢true, all_below-at, characters_of, twist_right}
use Rattle.table_check.proofs.row_clauses.fn.twist_of.first_below.Goals as goal

pub unreachable-requires : goal.unreachable-requires
unreachable-requires g c =
    let t = c.captures.table.now in
    false≢true (c.in_default.ensures.forms.there
    ∙ all_below-at g.row.K c.args.t (λ e. (twist_right t.over (characters_of g.row.K t.rows) c.captures.i e).fits) c.requires.2 c.requires.1)
