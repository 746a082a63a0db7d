-- The coefficients so far.
use Rattle.qd_ring.proofs.Names.{◌≡◌, ◌≤◌, ◌<◌, All, take, length, cyclotomic_value, total_of, value_of_terms, total_of_terms}
use Rattle.qd_ring.proofs.terms.Terms.of.Given as goal

abbrev pub invariant-loop-power : goal.invariant-loop-power
invariant-loop-power g l = record {
  few : length l.terms.items ≤ l.power;
  powers : All (λ term. term.power < g.row.K) l.terms.items;
  value : value_of_terms g.row.K l.terms.items ≡ cyclotomic_value g.row.K (take l.power l.v.coefficients);
  total : total_of_terms l.terms.items ≡ total_of (take l.power l.v.coefficients);
  sum : l.total ≡ total_of (take l.power l.v.coefficients);
}
