use Rattle.std.proofs.Common.{◌≡◌, ◌≢◌, ◌⊎◌, inl, inr, ◌<◌, ℕ, ap, sym, ◌∙◌, subst}
use Rattle.std.proofs.lemmas.Bool.{cases_eq}
use Rattle.prime_field.specs.SquareMatrix.{Square, entry, HasEntriesBelow}
use Rattle.worked_fields.proofs.matrices.put.Goals as goal

still_below : (q i j v : ℕ) (before after : Square) → after.width ≡ before.width → entry after i j ≡ v → v < q
    → ((k l : ℕ) → k < before.width → l < before.width → (k ≢ i) ⊎ (l ≢ j) → entry after k l ≡ entry before k l) → HasEntriesBelow q before → HasEntriesBelow q after
still_below q i j v before after width written small others below k l h m =
    let k_below : k < before.width = subst (λ n. k < n) width h in
    let l_below : l < before.width = subst (λ n. l < n) width m in
    elim (cases_eq k i) [
      | inl row ↦ elim (cases_eq l j) [
        | inl column ↦ subst (λ x. x < q) (sym (ap (λ x. entry after x l) row ∙ ap (entry after i) column ∙ written)) small
        | inr apart ↦ subst (λ x. x < q) (sym (others k l k_below l_below (inr apart))) (below k l k_below l_below)
      ]
      | inr apart ↦ subst (λ x. x < q) (sym (others k l k_below l_below (inl apart))) (below k l k_below l_below)
    ]

pub returns-clause-entries_below : goal.returns-clause-entries_below
returns-clause-entries_below c =
    still_below c.args.q c.args.i c.args.j c.args.v c.args.matrix.now c.set.new.self c.set.ensures.width c.set.ensures.written c.requires.v_below c.set.ensures.others c.requires.entries_below
