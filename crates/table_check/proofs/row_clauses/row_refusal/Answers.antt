use Rattle.table_check.proofs.Names.{◌≡◌, ◌==◌, false, refl, length, rules, ne_eqb, rank, Count}
use Rattle.table_check.proofs.row_clauses.row_refusal.Goals as goal

pub returns-then-rows-rank : goal.returns-then-rows-rank
returns-then-rows-rank g c =
    let n = length c.args.table.now.rows in
    let m = rank c.args.table.now.over in
    let apart : (n == m) ≡ false = ne_eqb n m (λ same. c.if-rows-rank.true (cc)) in
    record { finds = (record { clause = Count; i = 0; j = 0; x = 0 }, rw apart refl, search rules) }
