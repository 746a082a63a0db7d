-- Parts of a report, one after the other.
use Rattle.qd_engine.proofs.Names.{◌≡◌, ℕ, ◌+◌, ◌<◌, List, [], ◌∷◌, ◌++◌, length, take, get_or, refl, sym, ap, ◌∙◌, append_assoc, append-nil, take_more, flat_map, parts_text}
use Rattle.std.proofs.lemmas.Grind.{flat_map-append}

module _ {A : Type 0} (text : A → List ℕ) where
  pub no_parts : parts_text text [] ≡ []
  unfolding parts_text
  no_parts = refl

  -- one part more
  pub parts_more : (parts : List A) (i : ℕ) (d : A) (old now next : List ℕ) → i < length parts → now ≡ old ++ parts_text text (take i parts) → next ≡ now ++ text (get_or parts i d)
      → next ≡ old ++ parts_text text (take (i + 1) parts)
  unfolding parts_text
  parts_more parts i d old now next below before added =
      let part = get_or parts i d in
      let longer : flat_map text (take (i + 1) parts) ≡ flat_map text (take i parts) ++ text part =
      ap (flat_map text) (take_more parts i d below) ∙ flat_map-append text (take i parts) (part ∷ []) ∙ ap (λ t. flat_map text (take i parts) ++ t) (append-nil (text part)) in
      added ∙ ap (λ t. t ++ text part) before ∙ append_assoc old (flat_map text (take i parts)) (text part) ∙ ap (λ t. old ++ t) (sym longer)
