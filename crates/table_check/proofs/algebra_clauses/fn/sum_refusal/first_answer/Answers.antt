use Rattle.table_check.proofs.Names.{rules, characters_of}
use Rattle.table_check.proofs.algebra_clauses.fn.sum_refusal.first_answer.Goals as goal

pub returns : goal.returns
returns g c =
    let t = c.captures.table.now in
    c.equation.ensures.finds t.over (characters_of g.row.K t.rows) 0 0 c.args.x (cc) (search rules) (search rules)
