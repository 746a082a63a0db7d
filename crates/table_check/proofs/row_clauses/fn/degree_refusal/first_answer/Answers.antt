use Rattle.table_check.proofs.Names.{◌≡◌, false, rules, is_some, identity_of, size, characters_of, degree_of, Degree}
use Rattle.table_check.proofs.Equations.{missed_at}
use Rattle.table_check.proofs.row_clauses.fn.degree_refusal.first_answer.Goals as goal

pub returns-else-is_some : goal.returns-else-is_some
returns-else-is_some g c =
    let s = c.captures.table.now.over in
    let e = identity_of s.group in
    let found = is_some (degree_of g.row.K (size s) ((characters_of g.row.K c.captures.table.now.rows).chi c.args.i e)) in
    let none : found ≡ false = search rules in
    (record { clause = Degree; i = c.args.i; j = 0; x = e }, missed_at found Degree c.args.i 0 e none, search rules)
