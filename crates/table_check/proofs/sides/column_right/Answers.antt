use Rattle.table_check.proofs.Names.{◌+◌, IsTotal, subst, sym, arith, ap, cyclotomic_value, size, ne_eqb, column_term}
use Rattle.qd_ring.proofs.NoughtLaws.{total_nought}
use Rattle.table_check.proofs.Folds.{column_formed, column_left_out}
use Rattle.table_check.proofs.sides.column_right.Goals as goal
use Rattle.table_check.proofs.sides.column_right.Goals.{then-conjugate-y+in-Some, else-conjugate-y}

pub loop-c-init : goal.loop-c-init
loop-c-init g c = c.zero-total.ensures.none_added _

pub returns-in_default : goal.returns-in_default
returns-in_default g c =
    let s = c.args.table.now.over in
    let places = ap (λ t. size t) c.over-twist.ensures.over in
    let formed = column_formed g.row.K s c.args.x c.args.y c.loop-c.c c.over-twist.ensures.shaped.conductor _ _ _ (cc) (cc) c.from_root.ensures
    c.try_conj.ensures.fits c.try_conj.ensures.value in
    record {
      forms = c.in_default.ensures.overflow (column_term s c.args.x c.args.y) c.loop-c.c (size s)
          (omega (arith, c.loop-c-test.true, c.size-places.ensures.size, places)) c.loop-c.invariant formed;
    }

pub loop-c-preserved : goal.loop-c-preserved
loop-c-preserved g c =
    let k = g.row.K in
    let s = c.args.table.now.over in
    let term = column_term s c.args.x c.args.y in
    let i = c.loop-c.c in
    elim c.if-conjugate-y.branch [
      | then-conjugate-y+in-Some w ↦
          subst (λ t. IsTotal term (i + 1) (cyclotomic_value k t.sum.coefficients) t.sizes) (sym w.total-is)
          (w.in-Some.ensures.more term i c.loop-c.invariant
          (column_formed k s c.args.x c.args.y i c.over-twist.ensures.shaped.conductor _ _ _ (cc) (cc) w.from_root.ensures
          w.try_conj.ensures.fits w.try_conj.ensures.value))
      | else-conjugate-y w ↦
          subst (λ t. IsTotal term (i + 1) (cyclotomic_value k t.sum.coefficients) t.sizes) (sym w.total-is)
          (total_nought term i (cyclotomic_value k c.loop-c.total.sum.coefficients) c.loop-c.total.sizes c.loop-c.invariant
          (column_left_out k s c.args.x c.args.y i (ne_eqb _ _ (λ same. w.if-conjugate-y.false (cc)))))
    ]
