use Rattle.fusion_web.proofs.Names.{◌≡◌, count_of}
use Rattle.fusion_web.proofs.WalkLaws.{lookup}
use Rattle.fusion_web.proofs.web.Web.count.Given as goal

-- the results that are left have the count of k
abbrev pub invariant-loop-result : goal.invariant-loop-result
invariant-loop-result l =
    (goal.iterator-loop-result).can_next l.result-iterator × (goal.iterator-loop-result).is_finite l.result-iterator
    × (lookup l.k l.result-iterator ≡ count_of l.self l.i l.j l.k)
