use Rattle.transport.proofs.Names.{ap, ◌∙◌, cyclotomic_value, Cyc, characters_of, coefficients_of}
use Rattle.transport.proofs.Entries.{one_more}
use Rattle.transport.proofs.listing.values_of.Goals as goal

pub loop-p-preserved : goal.loop-p-preserved
loop-p-preserved g c =
    ap (coefficients_of g.row.K) c.in_ok-push.ensures.items
    ∙ one_more (λ (u : Cyc g.row.K). (cyclotomic_value g.row.K u.coefficients).coefficients) (λ p. ((characters_of g.row.K c.args.table.now.rows).chi c.args.r p).coefficients)
    c.loop-p.p c.loop-p.values.items c.value.result c.loop-p.invariant (ap (λ u. u.coefficients) c.value.ensures.value)
