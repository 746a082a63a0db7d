use Rattle.qd_doc.proofs.Names.{err_from_is_err_and, length, sym, tokens_from, ◌∙◌}
use Rattle.qd_doc.proofs.Loops.{fails_on, goes_on, entries_more, entries_end}
use Rattle.qd_doc.proofs.listing.entries.Goals as goal

pub returns-in_err-entry-clause-gives : goal.returns-in_err-entry-clause-gives
returns-in_err-entry-clause-gives c =
    let bytes = c.args.bytes.now.items in
    let p = err_from_is_err_and c.from_residual.result c.from_residual.ensures.1 in
    let more = entries_more (length bytes) c.args.count c.loop.counter (tokens_from c.loop.next bytes) c.args.order c.loop.exponents.items c.loop-test.true in
    rw (p.1, p.2) (fails_on _ _ (sym c.loop.invariant.left ∙ more) c.in_err-entry.field-0.0 c.in_err-entry.ensures.gives)

pub loop-preserved : goal.loop-preserved
loop-preserved c =
    let bytes = c.args.bytes.now.items in
    let e = c.in_ok-entry.entry in
    let more = entries_more (length bytes) c.args.count c.loop.counter (tokens_from c.loop.next bytes) c.args.order c.loop.exponents.items c.loop-test.true in
    record {
      offset = c.in_ok-entry.ensures.offset;
      all = c.loop.invariant.all;
      left = goes_on _ _ (sym c.loop.invariant.left ∙ more) ((e.place, e.exponent), tokens_from e.next bytes) c.in_ok-entry.ensures.gives;
    }

pub returns-clause-gives : goal.returns-clause-gives
returns-clause-gives c =
    let bytes = c.args.bytes.now.items in
    sym c.loop.invariant.left ∙ entries_end (length bytes) c.args.count c.loop.counter (tokens_from c.loop.next bytes) c.args.order c.loop.exponents.items c.loop-test.false
