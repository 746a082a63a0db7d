use Rattle.qd_steps.proofs.Names.{◌≡◌, ◌++◌, None, length, into_iter_items, first, table_at, cause_over}
use Rattle.qd_steps.proofs.class_tables.tables_of.Given as goal

-- the tables of the classes so far, which miss nothing, and before those that are left
abbrev pub invariant-loop-class : goal.invariant-loop-class
invariant-loop-class g l = record {
  can : (goal.iterator-loop-class g).can_next l.class-iterator;
  finite : (goal.iterator-loop-class g).is_finite l.class-iterator;
  kept : l.tables ++ into_iter_items l.class-iterator ≡ l.fn.classes.items;
  passed : first (length l.tables) (λ c. cause_over g.row.K (table_at l.fn.classes.items c)) ≡ None;
}
