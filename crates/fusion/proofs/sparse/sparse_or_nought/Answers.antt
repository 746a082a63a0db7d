use Rattle.fusion.proofs.Names.{ap, sym, ◌∙◌, cyclotomic_value}
use Rattle.std.specs.Cmp.Rules.{signed_items}
use Rattle.fusion.proofs.sparse.sparse_or_nought.Goals as goal

pub returns-then-eq : goal.returns-then-eq
returns-then-eq g c =
    let a = c.args.value.now in
    let b = c.zero.result in
    record { value = sym c.zero.ensures ∙ ap (cyclotomic_value g.row.K) (sym ((signed_items a.coefficients b.coefficients).0 (sym c.eq.ensures ∙ c.if-eq.true))) }
