use Rattle.table_check.proofs.Names.{rules, characters_of}
use Rattle.table_check.proofs.algebra_clauses.fn.product_refusal.first_of_triples.Goals as goal

pub returns : goal.returns
returns g c =
    let t = c.captures.table.now in
    c.equation.ensures.finds t.over (characters_of g.row.K t.rows) c.args.i c.args.j c.args.x (cc) (search rules) (search rules)
