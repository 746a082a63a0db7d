-- Arrays that stand for one value are one, so their equality is that of the values.
use Rattle.table_check.proofs.Names.{ap, sym, ◌∙◌, cyclotomic_value, is_same}
use Rattle.std.specs.Bool.{one_answer}
use Rattle.std.specs.Cmp.Rules.{signed_items}
use Rattle.qd_ring.proofs.CycSums.{arrays_same}
use Rattle.table_check.proofs.Same.{is_same-Decides}
use Rattle.table_check.proofs.compared.is_same.Goals as goal

pub returns : goal.returns
returns g c =
    let k = g.row.K in
    let a = c.args.a.now in
    let b = c.args.b.now in
    let decides = signed_items a.coefficients b.coefficients in
    record {
      same = one_answer c.eq.result (is_same (cyclotomic_value k a.coefficients) (cyclotomic_value k b.coefficients)) (
        λ same. ap (cyclotomic_value k) (decides.0 (sym c.eq.ensures ∙ same)),
        λ equal. c.eq.ensures ∙ decides.1 (arrays_same k a.conductor a.coefficients b.coefficients a.array b.array equal),
      ) (is_same-Decides (cyclotomic_value k a.coefficients) (cyclotomic_value k b.coefficients));
    }
