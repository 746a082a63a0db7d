use Rattle.qd_doc.proofs.Names.{AreValues, [], ap, arith, length, subst, sym, take_at, values_of, ◌++◌, ◌∙◌, ◌∷◌, ◌≡◌}
use Rattle.qd_doc.proofs.ValueLists.{values_kept, values_pushed, values_still, on_ok, on_err}
use Rattle.qd_doc.proofs.values.push_stored.Goals as goal

pub returns-then-is_err-clause-unchanged : goal.returns-then-is_err-clause-unchanged
returns-then-is_err-clause-unchanged c =
    let starts = c.args.starts.now.items in
    let terms = c.args.terms.now.items in
    let great = c.args.great.now.items in
    let also = c.push_value-pushed.new.great.items in
    let back : c.pop.new.self.items ≡ starts =
    c.pop.ensures.rest ∙ rw c.in_ok-push.ensures.items (take_at starts (c.in_ok-start.start ∷ []) _ (omega (arith, c.in_ok-push.ensures.len))) in
    on_err c.push_value-pushed.result
    (λ same. ap (λ s. values_of s c.push_value-pushed.new.terms.items also) back ∙ ap (λ t. values_of starts t also) same ∙ values_kept starts terms terms great also c.requires.values c.push_value-pushed.ensures.great_kept)
    c.push_value-pushed.ensures.unchanged

pub returns-else-is_err-clause-values : goal.returns-else-is_err-clause-values
returns-else-is_err-clause-values c =
    let starts = c.args.starts.now.items in
    let terms = c.args.terms.now.items in
    let great = c.args.great.now.items in
    let more = c.push_value-pushed.new.terms.items in
    let also = c.push_value-pushed.new.great.items in
    let start : c.in_ok-start.start ≡ length terms = omega arith in
    let added : c.push.new.self.items ≡ starts ++ length terms ∷ [] = c.in_ok-push.ensures.items ∙ ap (λ n. starts ++ n ∷ []) start in
    subst (λ s. AreValues s more also) (sym added) (values_still starts terms more great also c.requires.values c.push_value-pushed.ensures.great_kept c.push_value-pushed.ensures.kept c.push_value-pushed.ensures.each (omega arith))

pub returns-else-is_err-clause-added : goal.returns-else-is_err-clause-added
returns-else-is_err-clause-added c =
    let starts = c.args.starts.now.items in
    let terms = c.args.terms.now.items in
    let great = c.args.great.now.items in
    let more = c.push_value-pushed.new.terms.items in
    let also = c.push_value-pushed.new.great.items in
    let start : c.in_ok-start.start ≡ length terms = omega arith in
    let added : c.push.new.self.items ≡ starts ++ length terms ∷ [] = c.in_ok-push.ensures.items ∙ ap (λ n. starts ++ n ∷ []) start in
    on_ok c.push_value-pushed.result
    (λ value. ap (λ s. values_of s more also) added ∙ values_pushed starts terms more great also c.requires.values c.push_value-pushed.ensures.great_kept c.push_value-pushed.ensures.kept c.args.v.now.coefficients value)
    c.push_value-pushed.ensures.value
