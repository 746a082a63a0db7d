use Rattle.table_check.proofs.Names.{rules, characters_of}
use Rattle.table_check.proofs.algebra_clauses.fn.column_refusal.first_of_pairs.Goals as goal

pub returns : goal.returns
returns g c =
    let t = c.captures.table.now in
    c.equation.ensures.finds t.over (characters_of g.row.K t.rows) 0 c.args.y c.args.x (cc) (search rules) (search rules)
