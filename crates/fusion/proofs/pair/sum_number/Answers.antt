use Rattle.fusion.proofs.Names.{ap₂, sym, ◌∙◌, whole_quotient}
use Rattle.fusion.proofs.Faults.{first_fault}
use Rattle.fusion.proofs.pair.sum_number.Goals as goal

pub returns-in-None-clause-refused : goal.returns-in-None-clause-refused
returns-in-None-clause-refused g c =
    let k = g.row.K in
    let s = c.args.simples.now in
    record {
      first_is = first_fault k s c.args.i c.args.j c.args.l c.requires.i_below c.requires.j_below c.requires.l_below c.requires.before
          (ap₂ (whole_quotient k) (sym c.order.ensures.order) (sym (c.in-Some.ensures.answers).stands) ∙ sym c.whole_quotient.ensures.quotient ∙ c.in-None.is);
      value_is = (c.in-Some.ensures.answers).stands;
    }
