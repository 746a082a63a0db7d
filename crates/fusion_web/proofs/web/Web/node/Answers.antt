use Rattle.fusion_web.proofs.Names.{◌≡◌, ◌<◌, ℕ, ◌∙◌, sym, ap, subst, arith, length, length-map, get_or_default, WebEntries, entry_of, no_node, next_at, ring_at, key_at, web_of, Follows, Node, Into, IsNext}
use Rattle.fusion_web.proofs.web.Web.node.Goals as goal

pub returns-clause-into : goal.returns-clause-into
returns-clause-into c =
    let nodes = c.self.inside.nodes.items in
    let inside : c.args.p < length nodes = omega (arith, c.requires.inside, ap (λ (web : WebEntries). length web.entries) c.self.view_is, length-map nodes entry_of) in
    let link : next_at Into nodes c.args.p ≡ c.index.result.now.next_into =
    ap (λ (node : Node). node.next_into) (get_or_default nodes c.args.p no_node c.index.result.now inside ∙ sym c.index.ensures) in
    subst (λ (web : WebEntries). Follows Into web c.args.p c.index.result.now.next_into) c.self.view_is
    (subst (λ (q : ℕ). Follows Into (web_of c.self.inside.simples nodes) c.args.p q) link
    (subst (λ (m : ℕ). IsNext (ring_at Into c.self.inside.simples nodes) (key_at Into c.self.inside.simples nodes) m c.args.p (next_at Into nodes c.args.p)) (sym (length-map nodes entry_of)) (c.self.invariant.intos.linked c.args.p inside)))
