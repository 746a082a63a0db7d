use Rattle.table_check.proofs.Names.{◌≡◌, ◌==◌, true, false, refl, rules, eq-eqb, identity_of, element, characters_of, has_vacuum, Vacuum}
use Rattle.table_check.proofs.row_clauses.vacuum_refusal.Goals as goal

pub returns : goal.returns
returns g c =
    let s = c.args.table.now.over in
    let own : (element s (identity_of s.group) == s.at) ≡ true = eq-eqb (element s (identity_of s.group)) s.at (cc) in
    let none : has_vacuum s (characters_of g.row.K c.args.table.now.rows) ≡ false = search rules in
    record { finds = (record { clause = Vacuum; i = 0; j = 0; x = 0 }, rw (own, none) refl, search rules) }
