use Rattle.char_lift.proofs.Names.{rules, Some, None, ap, ◌∙◌, ◌==◌, slice_index, unwrap_or, if◌then◌else◌, Table, representative_of}
use Rattle.char_lift.proofs.RatioLaws.{number_found}
use Rattle.char_lift.proofs.ratios.regular_number.Goals as goal

pub returns : goal.returns
returns c =
    let places = c.args.representatives.now in
    let r = c.representative-representative.result in
    record {
      number =
          c.unwrap_or.ensures
          ∙ ap (λ o. unwrap_or o 0)
          (c.first_below.ensures.least (λ t. if slice_index places t == r then Some t else None) (λ i result below post. search rules))
          ∙ number_found c.args.twist.now c.args.y r c.len.result places c.requires.representatives
          (c.representative-representative.ensures.representative ∙ c.class_of.ensures.representative ∙ ap (λ (t : Table). representative_of t c.args.y) c.requires.classes)
          c.len.ensures.count;
    }
