-- A whole number is its array: the number, then zeros.
use Rattle.qd_ring.proofs.Names.{◌∷◌, [], ap, sym, ◌∙◌, arith, get_or, pos, cyclotomic_value}
use Rattle.qd_ring.proofs.BufferLaws.{read_128, size_at}
use Rattle.qd_ring.proofs.CycLaws.{small_means}
use Rattle.qd_ring.proofs.CycSums.{whole_value, not_whole}
use Rattle.qd_ring.proofs.cyc.Cyc.as_whole.Goals as goal

pub returns-then-all_zero-clause-whole : goal.returns-then-all_zero-clause-whole
returns-then-all_zero-clause-whole g c =
    let a = c.args.self.now in
    whole_value g.row.K a.conductor a.coefficients a.array (sym c.all_zero.ensures ∙ c.if-all_zero.true)
    ∙ ap (λ z. cyclotomic_value g.row.K (z ∷ []))
    (sym (read_128 (get_or a.coefficients 0 (pos 0)) (omega (arith, size_at a.coefficients 0, small_means a.coefficients a.small))))

pub returns-else-all_zero-clause-none : goal.returns-else-all_zero-clause-none
returns-else-all_zero-clause-none g c =
    let a = c.args.self.now in
    not_whole g.row.K a.conductor a.coefficients a.array (sym c.all_zero.ensures ∙ c.if-all_zero.false)
