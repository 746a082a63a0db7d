use Rattle.fusion_web.proofs.Names.{◌≡◌, ◌<◌, ◌∙◌, length, sym, ap, arith, length-map, WebEntries, IsEntry, count_of, most_nodes, entry_of, web_of, Node, Row, Into}
use Rattle.fusion_web.proofs.WebLaws.{written, web_pushed, still_linked, linked_as_written}
use Rattle.fusion_web.proofs.web.Web.insert.Goals as goal

pub link_in_both-requires-clause-web : goal.link_in_both-requires-clause-web
link_in_both-requires-clause-web c =
    let n = c.self.inside.simples in
    let nodes = c.self.inside.nodes.items in
    let node : Node = record { i = c.args.i; j = c.args.j; k = c.args.k; count = c.args.count; next_row = c.len-place.result; next_into = c.len-place.result } in
    let simples : n ≡ c.args.self.now.simples = ap (λ (web : WebEntries). web.simples) c.self.view_is in
    let entry : IsEntry n (entry_of node) = record { i_below = omega (arith, simples); j_below = omega (arith, simples); k_below = omega (arith, simples); some = c.requires.some } in
    let new : count_of (web_of n nodes) c.args.i c.args.j c.args.k ≡ 0 = ap (λ (web : WebEntries). count_of web c.args.i c.args.j c.args.k) c.self.view_is ∙ c.requires.absent in
    let room : length nodes < most_nodes = omega (arith, c.self.invariant.web.limit, length-map nodes entry_of, c.if-len-eq-MOST_NODES.false, c.len.ensures, c.self.inside.nodes.ok.0) in
    web_pushed n nodes node c.self.invariant.web entry new room c.deref_mut.result.now (c.deref_mut.ensures.value ∙ c.in_ok-push.ensures.items)

pub link_in_both-requires-clause-rows : goal.link_in_both-requires-clause-rows
link_in_both-requires-clause-rows c =
    let n = c.self.inside.simples in
    let nodes = c.self.inside.nodes.items in
    let node : Node = record { i = c.args.i; j = c.args.j; k = c.args.k; count = c.args.count; next_row = c.len-place.result; next_into = c.len-place.result } in
    still_linked n Row nodes c.deref_mut.result.now node c.len-place.result c.self.inside.row_lasts.items c.deref_mut-2.result.now c.self.invariant.rows
    (c.deref_mut.ensures.value ∙ c.in_ok-push.ensures.items) (c.len-place.ensures ∙ c.self.inside.nodes.ok.0) c.deref_mut-2.ensures.value

pub link_in_both-requires-clause-intos : goal.link_in_both-requires-clause-intos
link_in_both-requires-clause-intos c =
    let n = c.self.inside.simples in
    let nodes = c.self.inside.nodes.items in
    let node : Node = record { i = c.args.i; j = c.args.j; k = c.args.k; count = c.args.count; next_row = c.len-place.result; next_into = c.len-place.result } in
    still_linked n Into nodes c.deref_mut.result.now node c.len-place.result c.self.inside.into_lasts.items c.deref_mut-3.result.now c.self.invariant.intos
    (c.deref_mut.ensures.value ∙ c.in_ok-push.ensures.items) (c.len-place.ensures ∙ c.self.inside.nodes.ok.0) c.deref_mut-3.ensures.value

pub invariant_of-self-2 : goal.invariant_of-self-2
invariant_of-self-2 c =
    linked_as_written c.self.inside.simples
    (written c.push.new.self.len c.link_in_both.new.nodes c.push.new.self.items (c.link_in_both.auto.nodes ∙ ap length c.deref_mut.ensures.value ∙ sym c.push.new.self.ok.0) (sym c.push.new.self.ok.0))
    (written c.self.inside.row_lasts.len c.link_in_both.new.row_lasts c.self.inside.row_lasts.items
    (c.link_in_both.auto.row_lasts ∙ ap length c.deref_mut-2.ensures.value ∙ sym c.self.inside.row_lasts.ok.0) (sym c.self.inside.row_lasts.ok.0))
    (written c.self.inside.into_lasts.len c.link_in_both.new.into_lasts c.self.inside.into_lasts.items
    (c.link_in_both.auto.into_lasts ∙ ap length c.deref_mut-3.ensures.value ∙ sym c.self.inside.into_lasts.ok.0) (sym c.self.inside.into_lasts.ok.0))
    c.link_in_both.ensures.linked
