use Rattle.qd_doc.proofs.Names.{arith, flat_map, length, line, rows, ◌++◌}
use Rattle.qd_doc.proofs.Lines.{rows_more, rows_all, rows_left, rows_fit}
use Rattle.qd_doc.proofs.printing.append_rows.Goals as goal

pub split_at-requires : goal.split_at-requires
split_at-requires c = rows_fit (length c.loop.rest.now) c.args.width c.args.count c.loop.counter c.loop-test.true c.loop.invariant.left

pub loop-preserved : goal.loop-preserved
loop-preserved c =
    let rest = c.loop.rest.now in
    let total = c.args.out.now.items ++ flat_map line (rows c.args.count c.args.width c.args.numbers.now) in
    record {
      left = omega (arith, c.split_at.ensures.back_len, rows_left (length rest) c.args.width c.args.count c.loop.counter c.loop-test.true c.loop.invariant.left);
      text = rw (c.in_ok-append_row.ensures.added, c.split_at.ensures.front, c.split_at.ensures.back)
          (rows_more c.loop.out.items total c.args.count c.loop.counter c.args.width rest c.loop-test.true c.loop.invariant.text);
    }

pub returns : goal.returns
returns c = record {
  added = rows_all c.loop.out.items (c.args.out.now.items ++ flat_map line (rows c.args.count c.args.width c.args.numbers.now)) c.args.count c.loop.counter c.args.width c.loop.rest.now c.loop-test.false c.loop.invariant.text;
}
