use Rattle.data_print.proofs.Names.{◌≡◌, ◌++◌, ap, ◌∙◌, subst, append_assoc, codes, OnOk, ap₂}
use Rattle.qd_ring.specs.ValueText.{value_text}
use Rattle.data_print.proofs.ValueTexts.{text_of}
use Rattle.data_print.proofs.value_words.append_value.Goals as goal

pub returns : goal.returns
returns g c =
    let old = c.args.text.now.items in
    let same = ap₂ (λ text coefficients. text ++ value_text coefficients) c.in_ok-push.ensures.items c.to_plain.ensures
    ∙ append_assoc old (codes " ") (value_text c.args.value.now.coefficients)
    ∙ ap (λ text. old ++ (codes " " ++ text)) (text_of c.args.value.now) in
    record { added = subst (λ text. OnOk c.append_plain.result (c.append_plain.new.out.items ≡ text)) same c.append_plain.ensures.added }
