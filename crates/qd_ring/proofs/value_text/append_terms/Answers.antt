use Rattle.qd_ring.proofs.Names.{◌≤◌, ◌+◌, ◌∙◌, ap, sym, ◌++◌, arith, rules, drop, le-ltb, length-take, ltb, take, take-length, length, get_or, pos, to_z-of_z, SFits, ap₂, term_text, terms_text}
use Rattle.std.proofs.Common.{to_z, of_z}
use Rattle.std.specs.Int.{w128}
use Rattle.qd_ring.proofs.Fronts.{front_trans}
use Rattle.qd_ring.proofs.ValueTextLaws.{terms_skip, terms_more, terms_ended, nonzero_from_bits, zero_from_bits}
use Rattle.qd_ring.proofs.value_text.append_terms.Goals.{then-coefficient-ne0+in_ok-append_term, else-coefficient-ne0}
use Rattle.qd_ring.proofs.value_text.append_terms.Goals as goal

pub loop-power-init : goal.loop-power-init
loop-power-init c = record {
  start = c.len-start.ensures ∙ c.args.out.now.ok.0;
  written = rw (le-ltb (length c.args.out.now.items) (length c.args.out.now.items) (omega arith));
  front = take-length c.args.out.now.items;
}

pub loop-power-preserved : goal.loop-power-preserved
loop-power-preserved c =
    let old = c.args.out.now.items in
    let out = c.loop-power.out.items in
    let cs = c.args.coefficients.now in
    let i = c.loop-power.power in
    let fits : SFits w128 (get_or cs i (pos 0)) = search rules in
    elim c.if-coefficient-ne0.branch [
      | then-coefficient-ne0+in_ok-append_term w ↦
          let coefficient = to_z w128 (of_z w128 (get_or cs i (pos 0))) in
          let grown : length old ≤ length out = omega (arith, ap length c.loop-power.invariant.front, length-take (length old) out) in
          record {
            start = c.loop-power.invariant.start;
            written = ap (λ o. o ++ terms_text (ltb (length old) (length o)) (i + 1) (drop (i + 1) cs))
                (ap (λ v. v.items) w.out-is ∙ w.in_ok-append_term.ensures.added
                ∙ ap (λ b. out ++ term_text b i coefficient) (ap₂ ltb c.loop-power.invariant.start (w.len.ensures ∙ c.loop-power.out.ok.0)))
                ∙ terms_more old out cs i coefficient c.loop-power-test.true (sym (to_z-of_z w128 _ fits)) (nonzero_from_bits _ fits w.if-coefficient-ne0.true) grown
                ∙ c.loop-power.invariant.written;
            front = ap (λ v. take (length old) v.items) w.out-is
                ∙ front_trans old out w.append_term.new.out.items c.loop-power.invariant.front w.in_ok-append_term.ensures.front;
          }
      | else-coefficient-ne0 w ↦ record {
        start = c.loop-power.invariant.start;
        written = ap (λ v. v.items ++ terms_text (ltb (length old) (length v.items)) (i + 1) (drop (i + 1) cs)) w.out-is
            ∙ ap (λ t. out ++ t) (sym (terms_skip _ cs i c.loop-power-test.true (zero_from_bits _ fits w.if-coefficient-ne0.false))) ∙ c.loop-power.invariant.written;
        front = ap (λ v. take (length old) v.items) w.out-is ∙ c.loop-power.invariant.front;
      }
    ]

pub returns-clause-added : goal.returns-clause-added
returns-clause-added c = sym (terms_ended c.loop-power.out.items _ c.args.coefficients.now c.loop-power.power (omega arith)) ∙ c.loop-power.invariant.written
