-- The size decides.
use Rattle.qd_ring.proofs.Names.{sym, ◌∙◌}
use Rattle.qd_ring.specs.ArrayLaws.{value_fits-small}
use Rattle.qd_ring.proofs.CycLaws.{is_small_yes, is_small_no}
use Rattle.qd_ring.proofs.cyc.Cyc.fitted.Goals as goal

pub invariant_of-result : goal.invariant_of-result
invariant_of-result g c = record {
  conductor = c.requires.conductor;
  array = c.requires.array;
  small = is_small_yes c.args.coefficients c.size.result c.size.ensures c.if-size-le-GREATEST.true;
}

pub returns-then-size-le-GREATEST-clause-small : goal.returns-then-size-le-GREATEST-clause-small
returns-then-size-le-GREATEST-clause-small g c = sym (is_small_yes c.args.coefficients c.size.result c.size.ensures c.if-size-le-GREATEST.true)

pub returns-then-size-le-GREATEST-clause-fits : goal.returns-then-size-le-GREATEST-clause-fits
returns-then-size-le-GREATEST-clause-fits g c =
    returns-then-size-le-GREATEST-clause-small g c ∙ sym (value_fits-small g.row.K c.requires.conductor c.args.coefficients c.requires.array)

pub returns-else-size-le-GREATEST-clause-small : goal.returns-else-size-le-GREATEST-clause-small
returns-else-size-le-GREATEST-clause-small g c = sym (is_small_no c.args.coefficients c.size.result c.size.ensures c.if-size-le-GREATEST.false)

pub returns-else-size-le-GREATEST-clause-fits : goal.returns-else-size-le-GREATEST-clause-fits
returns-else-size-le-GREATEST-clause-fits g c =
    returns-else-size-le-GREATEST-clause-small g c ∙ sym (value_fits-small g.row.K c.requires.conductor c.args.coefficients c.requires.array)
