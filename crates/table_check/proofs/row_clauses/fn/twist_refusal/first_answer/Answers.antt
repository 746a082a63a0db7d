use Rattle.table_check.proofs.Names.{◌≡◌, ◌&&◌, false, ap, rules, is_some, and_false, characters_of, twists_fit, twist_of, Twist}
use Rattle.table_check.proofs.Equations.{missed_at}
use Rattle.table_check.proofs.row_clauses.fn.twist_refusal.first_answer.Goals as goal

pub returns-then-not-twists_fit : goal.returns-then-not-twists_fit
returns-then-not-twists_fit g c =
    let s = c.captures.table.now.over in
    let table = characters_of g.row.K c.captures.table.now.rows in
    let found = is_some (twist_of s table c.args.i) in
    let unfit : twists_fit s table c.args.i ≡ false = search rules in (
      record { clause = Twist; i = c.args.i; j = 0; x = 0 },
      missed_at (twists_fit s table c.args.i && found) Twist c.args.i 0 0 (ap (λ b. b && found) unfit),
      (unfit, (cc)),
    )

pub returns-else-is_some : goal.returns-else-is_some
returns-else-is_some g c =
    let s = c.captures.table.now.over in
    let table = characters_of g.row.K c.captures.table.now.rows in
    let found = is_some (twist_of s table c.args.i) in
    let none : found ≡ false = search rules in (
      record { clause = Twist; i = c.args.i; j = 0; x = 0 },
      missed_at (twists_fit s table c.args.i && found) Twist c.args.i 0 0 (and_false (twists_fit s table c.args.i) found none),
      search rules,
    )
