use Rattle.fusion_web.proofs.Names.{◌-◌, ring_at, key_at, next_at}
use Rattle.fusion_web.proofs.RingLaws.{IsSearched}
use Rattle.fusion_web.proofs.links.place_before.Given as goal

-- the places up to `before` are passed
abbrev pub invariant-loop-before : goal.invariant-loop-before
invariant-loop-before l = IsSearched (ring_at l.side l.simples l.nodes) (key_at l.side l.simples l.nodes) l.place (next_at l.side l.nodes) l.before l.after

abbrev pub decreases-loop-before : goal.decreases-loop-before
decreases-loop-before l = l.key - key_at l.side l.simples l.nodes l.after
