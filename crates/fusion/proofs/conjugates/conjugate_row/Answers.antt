use Rattle.fusion.proofs.Names.{◌≡◌, ◌==◌, [], ℕ, Bool, List, length, get_or, refl, sym, ap, ◌∙◌, subst, IfSome, Vec, class_of, Pair, value_of_terms, class_at, passing_below-zero, passing_below-passes, passing_below-fails, Weighted, AreAt, IsWeighted, listed_at, places_before, weighted_conjugate}
use Rattle.fusion.proofs.Lists.{none_at, one_more_place}
use Rattle.fusion.proofs.conjugates.conjugate_row.Goals as goal
use Rattle.fusion.proofs.conjugates.conjugate_row.Goals.{then-is_in_class+in_ok-push, else-is_in_class}

pub loop-p-init : goal.loop-p-init
loop-p-init g c =
    let k = g.row.K in
    let s = c.args.simples.now in
    let holds : List ℕ → ℕ → Weighted k → Type 0 = λ places q weighted. IsWeighted k s c.args.l (get_or places q 0) weighted in
    subst (λ (places : List ℕ). AreAt (holds places) (length places) c.new-row.result.items) (sym (passing_below-zero _)) (none_at (holds []) c.new-row.result.items c.new-row.ensures.items)

pub loop-p-preserved : goal.loop-p-preserved
loop-p-preserved g c =
    let k = g.row.K in
    let s = c.args.simples.now in
    let l = c.args.l in
    let p = c.loop-p.p in
    let holds : List ℕ → ℕ → Weighted k → Type 0 = λ places q weighted. IsWeighted k s l (get_or places q 0) weighted in
    let test : ℕ → Bool = λ m. class_of s.cocycle.group (listed_at k s m).g == class_at k s l in
    let tested = ap (λ (pair : Pair). class_of s.cocycle.group pair.g == class_at k s l) c.listed_at-pair.ensures.pair in
    elim c.if-is_in_class.branch [
      | then-is_in_class+in_ok-push w ↦
          let one : Weighted k = record { place = p; conjugate = w.weighted_conjugate-conjugate.result } in
          let is : IsWeighted k s l p one = record {
            place_is = refl;
            stands = subst (λ (pair : Pair). IfSome one.conjugate (λ u. value_of_terms k u ≡ weighted_conjugate k s l pair)) c.listed_at-pair.ensures.pair
                w.weighted_conjugate-conjugate.ensures.value;
          } in
          subst (λ (places : List ℕ). AreAt (holds places) (length places) c.if-is_in_class.row.items)
          (sym (passing_below-passes p test (sym tested ∙ sym w.if-is_in_class.ensures.class)))
          (one_more_place (IsWeighted k s l) (places_before k s l p) p c.loop-p.row.items c.if-is_in_class.row.items one
          (ap (λ (row : Vec (Weighted k)). row.items) w.row-is ∙ w.in_ok-push.ensures.items) c.loop-p.invariant is)
      | else-is_in_class w ↦
          subst (λ (places : List ℕ). AreAt (holds places) (length places) c.if-is_in_class.row.items)
          (sym (passing_below-fails p test (sym tested ∙ sym w.if-is_in_class.ensures.class)))
          (subst (λ (row : Vec (Weighted k)). AreAt (holds (places_before k s l p)) (length (places_before k s l p)) row.items) (sym w.row-is) c.loop-p.invariant)
    ]
