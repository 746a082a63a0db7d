use Rattle.qd_ring.proofs.Names.{refl, cyclotomic_value}
use Rattle.qd_ring.proofs.TotalLaws.{total_all}
use Rattle.qd_ring.proofs.total.Total.sum.Goals as goal

pub returns : goal.returns
returns g c = record {
  all_added = λ term n total. total_all term n (cyclotomic_value g.row.K c.args.self.sum.coefficients) c.args.self.sizes c.args.self.sum total refl;
}
