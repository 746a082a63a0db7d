use Rattle.transport.proofs.Names.{◌≡◌, map, range_with_len, characters_of, coefficients_of}
use Rattle.transport.proofs.listing.values_of.Given as goal

-- the coefficients of the values before p
abbrev pub invariant-loop-p : goal.invariant-loop-p
invariant-loop-p g l = coefficients_of g.row.K l.values.items ≡ map (λ p. ((characters_of g.row.K l.table.rows).chi l.r p).coefficients) (range_with_len 0 l.p)
