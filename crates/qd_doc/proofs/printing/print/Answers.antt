use Rattle.qd_doc.proofs.Names.{ap, codes, decimal, ◌++◌, ◌∙◌}
use Rattle.qd_doc.proofs.Lines.{canonical_pieces}
use Rattle.qd_doc.proofs.printing.print.Goals as goal

pub returns : goal.returns
returns c = record {
  text = canonical_pieces c.args.document.now c.append_front.new.out.items c.append_rows.new.out.items c.append_roots.new.out.items c.append_exponents.new.out.items c.append_characters.new.out.items c.append_word.new.out.items
      (c.in_ok-append_front.ensures.added ∙ ap (λ old. old ++ (codes "qdouble 1\norder " ++ (decimal c.args.document.now.order ++ codes "\ntable\n"))) c.new-out.ensures.items)
      (rw c.as_slice.ensures.numbers at c.in_ok-append_rows.ensures.added)
      c.in_ok-append_roots.ensures.added
      (rw c.as_slice-2.ensures.numbers at c.in_ok-append_exponents.ensures.added)
      c.in_ok-append_characters.ensures.added
      c.in_ok-append_word.ensures.added;
}
