use Rattle.fusion_web.proofs.Names.{ℕ, length, subst, sym, length-map, entry_of, ring_at, key_at, next_at, IsFirst}
use Rattle.fusion_web.proofs.RingLaws.{first_after_last}
use Rattle.fusion_web.proofs.links.head.Goals as goal

pub bounds-nodes-last : goal.bounds-nodes-last
bounds-nodes-last c = (c.requires.linked.last c.args.ring c.in-Some.last c.requires.ring c.in-Some.is).inside

pub returns-in-Some : goal.returns-in-Some
returns-in-Some c =
    let nodes = c.args.nodes.now in
    let ring = ring_at c.args.side c.args.simples nodes in
    let key = key_at c.args.side c.args.simples nodes in
    let last = c.requires.linked.last c.args.ring c.in-Some.last c.requires.ring c.in-Some.is in
    record {
      head = subst (λ (m : ℕ). IsFirst ring key m c.args.ring c.next.result) (sym (length-map nodes entry_of))
          (subst (λ (q : ℕ). IsFirst ring key (length nodes) c.args.ring q) (sym c.next.ensures.next)
          (first_after_last ring key (length nodes) c.args.ring c.in-Some.last (next_at c.args.side nodes c.in-Some.last) last (c.requires.linked.linked c.in-Some.last last.inside)));
    }
