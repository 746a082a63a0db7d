use Rattle.qd_doc.proofs.Names.{[], arith, err_from_is_err_and, length, length-append, sym, tokens_from, ℕ, ◌++◌, ◌∙◌, ◌∷◌, ◌≡◌}
use Rattle.qd_doc.proofs.Loops.{fails_on, goes_on, numbers_more, numbers_end}
use Rattle.qd_doc.proofs.listing.numbers.Goals as goal

pub returns-in_err-numeral-clause-gives : goal.returns-in_err-numeral-clause-gives
returns-in_err-numeral-clause-gives c =
    let bytes = c.args.bytes.now.items in
    let p = err_from_is_err_and c.from_residual.result c.from_residual.ensures.1 in
    let more = numbers_more (length bytes) c.args.count c.loop.counter (tokens_from c.loop.next bytes) c.loop.numbers c.loop-test.true in
    rw (p.1, p.2) (fails_on _ _ (sym c.loop.invariant.left ∙ more) c.in_err-numeral.field-0.0 c.in_err-numeral.ensures.gives)

pub loop-preserved : goal.loop-preserved
loop-preserved c =
    let bytes = c.args.bytes.now.items in
    let n = c.in_ok-numeral.numeral in
    let added : c.push.new.self ≡ c.loop.numbers ++ n.value ∷ [] = c.in_ok-push.ensures.added in
    let more = numbers_more (length bytes) c.args.count c.loop.counter (tokens_from c.loop.next bytes) c.loop.numbers c.loop-test.true in
    record {
      offset = c.in_ok-numeral.ensures.offset;
      few = rw added (omega (arith, length-append {A = ℕ}));
      left = rw added (goes_on _ _ (sym c.loop.invariant.left ∙ more) (n.value, tokens_from n.next bytes) c.in_ok-numeral.ensures.gives);
    }

pub returns-clause-gives : goal.returns-clause-gives
returns-clause-gives c =
    let bytes = c.args.bytes.now.items in
    sym c.loop.invariant.left ∙ numbers_end (length bytes) c.args.count c.loop.counter (tokens_from c.loop.next bytes) c.loop.numbers c.loop-test.false
