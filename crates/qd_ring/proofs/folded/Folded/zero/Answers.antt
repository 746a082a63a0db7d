-- A buffer of zeros.
use Rattle.qd_ring.proofs.Names.{ap, ◌∙◌, subst, sym, arith, cyclotomic, cyclotomic_value, total_of, length-zeros, value_of-zeros, IsFolded}
use Rattle.qd_ring.proofs.ProductLaws.{empty_front, total-zeros}
use Rattle.qd_ring.proofs.FoldingLaws.{folded_none}
use Rattle.qd_ring.proofs.folded.Folded.zero.Goals as goal

pub invariant_of-result : goal.invariant_of-result
invariant_of-result g c = record {
  conductor = c.requires;
  size = length-zeros 120;
  within = omega (arith, ap total_of (empty_front g.row.K c.requires), total-zeros g.row.K);
  small = omega arith;
}

pub returns-clause-value : goal.returns-clause-value
returns-clause-value g c = ap (cyclotomic_value g.row.K) (empty_front g.row.K c.requires) ∙ value_of-zeros (cyclotomic g.row.K) g.row.K

pub returns-clause-listed : goal.returns-clause-listed
returns-clause-listed g c = λ term.
    subst (λ sum. IsFolded g.row.K term 0 sum 0)
    (sym (ap (cyclotomic_value g.row.K) (empty_front g.row.K c.requires) ∙ value_of-zeros (cyclotomic g.row.K) g.row.K)) (folded_none g.row.K term)
