-- A place of the array is a coefficient, and there are none past its end.
use Rattle.qd_ring.proofs.Names.{◌∙◌, arith, get_or, pos}
use Rattle.qd_ring.proofs.BufferLaws.{read_128, size_at}
use Rattle.qd_ring.proofs.CycLaws.{small_means}
use Rattle.qd_ring.proofs.CycSums.{coefficient_at, coefficient_beyond}
use Rattle.qd_ring.proofs.cyc.Cyc.coefficient.Goals as goal

pub returns-then-p-lt42 : goal.returns-then-p-lt42
returns-then-p-lt42 g c =
    let a = c.args.self.now in
    read_128 (get_or a.coefficients c.args.p (pos 0)) (omega (arith, size_at a.coefficients c.args.p, small_means a.coefficients a.small))
    ∙ coefficient_at g.row.K a.conductor a.coefficients a.array c.args.p

pub returns-else-p-lt42 : goal.returns-else-p-lt42
returns-else-p-lt42 g c =
    let a = c.args.self.now in
    coefficient_beyond g.row.K a.conductor a.coefficients a.array c.args.p c.if-p-lt42.false
