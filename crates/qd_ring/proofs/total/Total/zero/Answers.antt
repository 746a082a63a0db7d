use Rattle.qd_ring.proofs.Names.{subst, sym, IsTotal}
use Rattle.qd_ring.proofs.TotalLaws.{total_none}
use Rattle.qd_ring.proofs.total.Total.zero.Goals as goal

pub returns : goal.returns
returns g c = record { none_added = λ term. subst (λ sum. IsTotal term 0 sum 0) (sym c.zero.ensures) (total_none term) }
