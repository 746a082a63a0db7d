use Rattle.fusion.proofs.Names.{◌+◌, ◌/◌, ◌%◌, ◌∷◌, [], ◌++◌, ap, ◌∙◌, sym, length, length-append, zero-add, count_of}
use Rattle.std.proofs.lemmas.List.FromFn.{map-range_with_len_more}
use mathlib.Core.Path.{ap₂}
use Rattle.fusion.proofs.reads.plane.Goals as goal

pub loop-q-preserved : goal.loop-q-preserved
loop-q-preserved c =
    let web = c.args.web.now in
    let n = web.simples in
    let q = c.loop-q.q in
    let made = c.loop-q.invariant in (
      ap length c.in_ok-push.ensures.added ∙ length-append c.loop-q.plane (c.count.result ∷ []) ∙ ap (λ m. m + 1) made.0,
      c.in_ok-push.ensures.added
          ∙ ap₂ (λ xs x. xs ++ x ∷ []) made.1 (c.count.ensures.count ∙ ap (λ m. count_of web (q / m) (q % m) c.args.k) c.simples-simples.ensures.simples)
          ∙ sym (map-range_with_len_more (λ r. count_of web (r / n) (r % n) c.args.k) 0 q q (zero-add q)),
    )
