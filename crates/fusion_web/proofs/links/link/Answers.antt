use Rattle.fusion_web.proofs.Names.{◌<◌, ◌∙◌, ℕ, List, length, sym, ap, subst, arith, get_or, set, None, Some, map, Node, entry_of, ring_at, AreLinked}
use Rattle.fusion_web.proofs.NodeLaws.{ring_seen, key_seen, entries_kept, linked_alone, linked_last, linked_between, with_last, twice_is}
use Rattle.fusion_web.proofs.links.link.Goals as goal

pub returns-in_default-clause-entries : goal.returns-in_default-clause-entries
returns-in_default-clause-entries c = ap (map entry_of) c.set_next.ensures.changed ∙ entries_kept c.args.side c.args.nodes.now c.args.place c.args.place

pub returns-in_default-clause-linked : goal.returns-in_default-clause-linked
returns-in_default-clause-linked c =
    let side = c.args.side in
    let n = c.args.simples in
    let nodes = c.args.nodes.now in
    let ring = ring_seen side n nodes c.args.place c.ring-ring.result (omega arith) c.ring-ring.ensures.ring in
    subst (λ (r : ℕ). AreLinked side n c.set_next.new.nodes (length c.set_next.new.nodes) (set c.args.lasts.now r (Some c.args.place))) (sym ring)
    (subst (λ (new : List Node). AreLinked side n new (length new) (with_last side n nodes c.args.place c.args.lasts.now c.requires.place c.requires.linked c.requires.ring)) (sym c.set_next.ensures.changed)
    (linked_alone side n nodes c.args.place c.args.lasts.now c.requires.place c.requires.linked c.requires.ring (ap (λ r. get_or c.args.lasts.now r None) (sym ring) ∙ c.in_default.is)))

pub place_before-before-requires-clause-last : goal.place_before-before-requires-clause-last
place_before-before-requires-clause-last c =
    let ring = ring_seen c.args.side c.args.simples c.args.nodes.now c.args.place c.ring-ring.result (omega arith) c.ring-ring.ensures.ring in
    c.requires.linked.last (ring_at c.args.side c.args.simples c.args.nodes.now c.args.place) c.in-Some.last c.requires.ring
    (ap (λ r. get_or c.args.lasts.now r None) (sym ring) ∙ c.in-Some.is)

pub bounds-nodes-last : goal.bounds-nodes-last
bounds-nodes-last c =
    let ring = ring_seen c.args.side c.args.simples c.args.nodes.now c.args.place c.ring-ring.result (omega arith) c.ring-ring.ensures.ring in
    let last =
    c.requires.linked.last (ring_at c.args.side c.args.simples c.args.nodes.now c.args.place) c.in-Some.last c.requires.ring
    (ap (λ r. get_or c.args.lasts.now r None) (sym ring) ∙ c.in-Some.is) in
    omega (arith, last.inside, c.requires.place)

pub key-requires-clause-entry : goal.key-requires-clause-entry
key-requires-clause-entry c =
    let ring = ring_seen c.args.side c.args.simples c.args.nodes.now c.args.place c.ring-ring.result (omega arith) c.ring-ring.ensures.ring in
    let last =
    c.requires.linked.last (ring_at c.args.side c.args.simples c.args.nodes.now c.args.place) c.in-Some.last c.requires.ring
    (ap (λ r. get_or c.args.lasts.now r None) (sym ring) ∙ c.in-Some.is) in
    c.requires.entries c.in-Some.last (omega (arith, last.inside, c.requires.place))

pub returns-then-is_last-clause-entries : goal.returns-then-is_last-clause-entries
returns-then-is_last-clause-entries c =
    ap (map entry_of) c.set_next-3.ensures.changed ∙ entries_kept c.args.side c.set_next-2.new.nodes c.place_before-before.result c.args.place
    ∙ ap (map entry_of) c.set_next-2.ensures.changed ∙ entries_kept c.args.side c.args.nodes.now c.args.place c.next-after.result

pub returns-else-is_last-clause-entries : goal.returns-else-is_last-clause-entries
returns-else-is_last-clause-entries c =
    ap (map entry_of) c.set_next-3.ensures.changed ∙ entries_kept c.args.side c.set_next-2.new.nodes c.place_before-before.result c.args.place
    ∙ ap (map entry_of) c.set_next-2.ensures.changed ∙ entries_kept c.args.side c.args.nodes.now c.args.place c.next-after.result

pub returns-then-is_last-clause-linked : goal.returns-then-is_last-clause-linked
returns-then-is_last-clause-linked c =
    let side = c.args.side in
    let n = c.args.simples in
    let nodes = c.args.nodes.now in
    let place = c.args.place in
    let before = c.place_before-before.result in
    let lasts = c.args.lasts.now in
    let here : place < length nodes = omega (arith, c.requires.place) in
    let ring = ring_seen side n nodes place c.ring-ring.result here c.ring-ring.ensures.ring in
    let ends = ap (λ r. get_or lasts r None) (sym ring) ∙ c.in-Some.is in
    let last = c.requires.linked.last (ring_at side n nodes place) c.in-Some.last c.requires.ring ends in
    let end_key = key_seen side n nodes c.in-Some.last c.key.result (omega (arith, last.inside, c.requires.place)) c.key.ensures.key in
    let new_key = key_seen side n nodes place c.key-2.result here c.key-2.ensures.key in
    let new =
    twice_is side n nodes place lasts c.requires.place c.requires.linked c.requires.ring c.requires.distinct before c.in-Some.last c.place_before-before.ensures.before ends
    c.set_next-2.new.nodes c.set_next-3.new.nodes c.next-after.result c.next-after.ensures.next c.set_next-2.ensures.changed c.set_next-3.ensures.changed in
    subst (λ (r : ℕ). AreLinked side n c.set_next-3.new.nodes (length c.set_next-3.new.nodes) (set lasts r (Some place))) (sym ring)
    (subst (λ (now : List Node). AreLinked side n now (length now) (with_last side n nodes place lasts c.requires.place c.requires.linked c.requires.ring)) (sym new)
    (linked_last side n nodes place lasts c.requires.place c.requires.linked c.requires.ring c.requires.distinct before c.in-Some.last c.place_before-before.ensures.before ends
    (omega (arith, end_key, new_key, c.if-is_last.true))))

pub returns-else-is_last-clause-linked : goal.returns-else-is_last-clause-linked
returns-else-is_last-clause-linked c =
    let side = c.args.side in
    let n = c.args.simples in
    let nodes = c.args.nodes.now in
    let place = c.args.place in
    let before = c.place_before-before.result in
    let lasts = c.args.lasts.now in
    let here : place < length nodes = omega (arith, c.requires.place) in
    let ring = ring_seen side n nodes place c.ring-ring.result here c.ring-ring.ensures.ring in
    let ends = ap (λ r. get_or lasts r None) (sym ring) ∙ c.in-Some.is in
    let last = c.requires.linked.last (ring_at side n nodes place) c.in-Some.last c.requires.ring ends in
    let end_key = key_seen side n nodes c.in-Some.last c.key.result (omega (arith, last.inside, c.requires.place)) c.key.ensures.key in
    let new_key = key_seen side n nodes place c.key-2.result here c.key-2.ensures.key in
    let new =
    twice_is side n nodes place lasts c.requires.place c.requires.linked c.requires.ring c.requires.distinct before c.in-Some.last c.place_before-before.ensures.before ends
    c.set_next-2.new.nodes c.set_next-3.new.nodes c.next-after.result c.next-after.ensures.next c.set_next-2.ensures.changed c.set_next-3.ensures.changed in
    subst (λ (now : List Node). AreLinked side n now (length now) lasts) (sym new)
    (linked_between side n nodes place lasts c.requires.place c.requires.linked c.requires.ring c.requires.distinct before c.in-Some.last c.place_before-before.ensures.before ends
    (omega (arith, end_key, new_key, c.if-is_last.false)))
