use Rattle.qd_engine.proofs.Names.{◌≡◌, ap, ◌∙◌, Cochain, sample_start}
use Rattle.qd_engine.proofs.Summaries.{web_total, web_many, two_pieces, same_end}
use Rattle.qd_engine.proofs.summary.append_line.Goals as goal

pub returns : goal.returns
returns g c =
    let k = g.row.K in
    let s = c.args.simples.now in
    let web = c.args.web.now in
    let is = c.requires.web in
    let order = c.order.ensures.order ∙ ap (λ t. t.order) c.group.ensures.group ∙ ap (λ (w : Cochain). w.group.order) c.cocycle.ensures.cocycle in
    let start = c.as_bytes.ensures.value ∙ c.in_ok-start.ensures.start ∙ ap (λ n. sample_start c.args.number n k c.args.q) order in
    let end = c.as_bytes-2.ensures.value ∙ c.in_ok-end.ensures.end
    ∙ same_end _ _ _ _ _ _ _ _ c.count.ensures.count (c.how_many.ensures.many ∙ web_many k s web is) (c.total_numbers.ensures.total ∙ web_total k s web is) c.sum_of_twists.ensures.sum in
    record { added = two_pieces c.extend_from_slice-2.result _ _ _ _ _ _ _ c.in_ok-extend_from_slice.ensures.items start end c.extend_from_slice-2.ensures.items }
