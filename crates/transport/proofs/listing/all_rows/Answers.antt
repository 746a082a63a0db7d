use Rattle.transport.proofs.Names.{◌≡◌, ◌++◌, map, ap, sym, ◌∙◌, arith, subst, RowsOver, IsShaped, characters_of, IsGood, rules, rows_of, simple_in}
use Rattle.transport.proofs.Rows.{rows_below-zero}
use Rattle.transport.proofs.Entries.{next_class, next_good, few_more}
use Rattle.transport.proofs.listing.all_rows.Goals as goal

pub loop-c-init : goal.loop-c-init
loop-c-init g c = record {
  rows = ap (map (simple_in g.row.K)) c.new-entries.ensures.items ∙ sym (rows_below-zero g.row.K c.args.tables.now);
  good = record { shaped = λ n below. absurd (omega (arith, below)); good = λ n below. absurd (omega (arith, below)) };
  few = search rules;
}

pub loop-c-preserved : goal.loop-c-preserved
loop-c-preserved g c =
    let k = g.row.K in
    let table = c.at.ensures.table in
    let done = c.in_ok-append_rows.ensures in
    let added = subst (λ (t : RowsOver). map (simple_in k) c.append_rows.new.entries.items ≡ map (simple_in k) c.loop-c.entries.items ++ rows_of k c.loop-c.c t) table done.added in
    record {
      rows = next_class k c.loop-c.c c.args.tables.now c.loop-c.entries.items c.append_rows.new.entries.items c.loop-c.invariant.rows added;
      good = next_good k c.loop-c.c c.args.tables.now c.loop-c.invariant.good (subst (IsShaped k) table done.shaped) (subst (λ (t : RowsOver). IsGood t.over (characters_of k t.rows)) table done.good);
      few = few_more k c.loop-c.c c.at.result.now c.loop-c.entries.items c.append_rows.new.entries.items done.added done.few c.loop-c.invariant.few;
    }
