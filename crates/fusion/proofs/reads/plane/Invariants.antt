use Rattle.fusion.proofs.Names.{◌≡◌, ◌/◌, ◌%◌, length, map, count_of, range_with_len}
use Rattle.fusion.proofs.reads.plane.Given as goal

-- the counts of the pairs before q
abbrev pub invariant-loop-q : goal.invariant-loop-q
invariant-loop-q l =
    (length l.plane ≡ l.q) × (l.plane ≡ map (λ q. count_of l.web (q / l.web.simples) (q % l.web.simples) l.k) (range_with_len 0 l.q))
