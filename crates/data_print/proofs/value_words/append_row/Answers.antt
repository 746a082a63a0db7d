use Rattle.data_print.proofs.Names.{◌++◌, [], map, take, ap, sym, ◌∙◌, arith, append-nil, take_all, map_more, ap₂, cyclotomic_value, row_at, value_word, value_words}
use Rattle.data_print.proofs.ValueTexts.{words_more}
use Rattle.data_print.proofs.value_words.append_row.Goals as goal

pub loop-j-init : goal.loop-j-init
loop-j-init g c = sym (append-nil c.args.text.now.items)

pub loop-j-preserved : goal.loop-j-preserved
loop-j-preserved g c =
    let row = row_at c.args.rows.now c.args.i in
    let k = g.row.K in
    c.in_ok-append_value.ensures.added
    ∙ ap₂ (λ text coefficients. text ++ value_word (cyclotomic_value k coefficients)) c.loop-j.invariant c.value.ensures
    ∙ words_more c.args.text.now.items (map (λ coefficients. cyclotomic_value k coefficients) (take c.loop-j.j row)) _
    ∙ ap (λ values. c.args.text.now.items ++ value_words values)
    (sym (map_more (λ coefficients. cyclotomic_value k coefficients) row c.loop-j.j [] (omega (arith, c.loop-j-test.true, c.width-j-end.ensures.count))))

pub returns : goal.returns
returns g c =
    let row = row_at c.args.rows.now c.args.i in
    record {
      added = c.loop-j.invariant
          ∙ ap (λ values. c.args.text.now.items ++ value_words (map (λ coefficients. cyclotomic_value g.row.K coefficients) values))
          (take_all c.loop-j.j row (omega (arith, c.loop-j-test.false, c.width-j-end.ensures.count)));
    }
