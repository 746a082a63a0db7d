use Rattle.data_print.proofs.Names.{◌++◌, ap, sym, ◌∙◌, arith, append-nil, zero-add, ap₂, value_at, value_word, value_words, first_values}
use Rattle.std.proofs.lemmas.List.FromFn.{map-range_with_len_more}
use Rattle.data_print.proofs.ValueTexts.{words_more}
use Rattle.data_print.proofs.simple_lines.append_values.Goals as goal

pub loop-p-init : goal.loop-p-init
loop-p-init g c = sym (append-nil c.args.text.now.items)

pub loop-p-preserved : goal.loop-p-preserved
loop-p-preserved g c =
    let s = c.args.simples.now in
    let k = g.row.K in
    c.in_ok-append_value.ensures.added
    ∙ ap₂ (λ text u. text ++ value_word u) c.loop-p.invariant c.value.ensures.value
    ∙ words_more c.args.text.now.items (first_values k s c.args.i c.loop-p.p) (value_at k s c.args.i c.loop-p.p)
    ∙ ap (λ values. c.args.text.now.items ++ value_words values)
    (sym (map-range_with_len_more (λ p. value_at k s c.args.i p) 0 c.loop-p.p c.loop-p.p (zero-add c.loop-p.p)))

pub returns : goal.returns
returns g c = record {
  added = c.loop-p.invariant
      ∙ ap (λ n. c.args.text.now.items ++ value_words (first_values g.row.K c.args.simples.now c.args.i n))
      (omega (arith, c.loop-p-test.false, c.loop-p.auto, c.places-p-end.ensures.places));
}
