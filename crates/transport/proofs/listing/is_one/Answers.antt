-- An array that stands for 1 is that of 1.
use Rattle.transport.proofs.Names.{ap, sym, ◌∙◌, cyclotomic, value_one, cyclotomic_value, is_same, is_same-Decides, arrays_same}
use Rattle.std.specs.Bool.{one_answer}
use Rattle.std.specs.Cmp.Rules.{signed_items}
use Rattle.transport.proofs.listing.is_one.Goals as goal

pub returns : goal.returns
returns g c =
    let k = g.row.K in
    let a = c.args.value.now in
    let b = c.one.result in
    let decides = signed_items a.coefficients b.coefficients in
    record {
      one = one_answer c.eq.result (is_same (cyclotomic_value k a.coefficients) (value_one (cyclotomic k))) (
        λ same. ap (cyclotomic_value k) (decides.0 (sym c.eq.ensures ∙ same)) ∙ c.one.ensures,
        λ equal. c.eq.ensures ∙ decides.1 (arrays_same k a.conductor a.coefficients b.coefficients a.array b.array (equal ∙ sym c.one.ensures)),
      ) (is_same-Decides (cyclotomic_value k a.coefficients) (value_one (cyclotomic k)));
    }
