-- Rows of kept conjugates, pair by pair.
use Rattle.modular_st.proofs.Names.{◌≡◌, ◌+◌, ◌<◌, ℕ, Bool, true, false, cond, List, [], ◌∷◌, ◌++◌, length, map, sym, ◌∙◌, ap, ap₂, subst, arith, inl, inr, cases_eq, map-append, length-map, get_or-map, Table, Pair, no_pair, pair_at, AreCommuting, Monomial, value_of_terms, SimplesOver, class_at, take, append-nil, take_all, exchanged, meets, IsSmall, conjugate_at, met_pairs, IsKeptRow}
use Rattle.std.proofs.lemmas.List.Elements.{filter_more}

module _ (k : ℕ) (s : SimplesOver) (pairs : List Pair) (i d : ℕ) where
  abbrev met : Pair → Bool
  met = meets s.cocycle.group (class_at k s i) d

  -- the row of the first m pairs
  pub record IsKeptFront (m : ℕ) (row : List (List Monomial)) : Type 0 where
    pub values : map (value_of_terms k) row ≡ map (conjugate_at k s i) (met_pairs k s i d (take m pairs))
    pub small : (p : ℕ) → p < m → met (pair_at pairs p) ≡ true → IsSmall k (conjugate_at k s i (pair_at pairs p))

  pub front_none : (row : List (List Monomial)) → row ≡ [] → IsKeptFront 0 row
  front_none row none = record { values = ap (map (value_of_terms k)) none; small = λ p below. absurd (omega (arith, below)) }

  -- one more place
  small_more : (m : ℕ) → ((p : ℕ) → p < m → met (pair_at pairs p) ≡ true → IsSmall k (conjugate_at k s i (pair_at pairs p)))
      → (met (pair_at pairs m) ≡ true → IsSmall k (conjugate_at k s i (pair_at pairs m)))
      → (p : ℕ) → p < m + 1 → met (pair_at pairs p) ≡ true → IsSmall k (conjugate_at k s i (pair_at pairs p))
  small_more m before here p below is_met = elim (cases_eq p m) [
    | inl same ↦ subst (λ q. met (pair_at pairs q) ≡ true → IsSmall k (conjugate_at k s i (pair_at pairs q))) (sym same) here is_met
    | inr apart ↦ before p (omega (arith, below, apart)) is_met
  ]

  module _ (m : ℕ) (row : List (List Monomial)) (inside : m < length pairs) (before : IsKeptFront m row) where
    pub front_more : (terms : List Monomial) → met (pair_at pairs m) ≡ true → value_of_terms k terms ≡ conjugate_at k s i (pair_at pairs m)
        → IsSmall k (conjugate_at k s i (pair_at pairs m)) → IsKeptFront (m + 1) (row ++ terms ∷ [])
    front_more terms is_met is small = record {
      values = map-append (value_of_terms k) row (terms ∷ []) ∙ ap₂ (λ xs x. xs ++ x ∷ []) before.values is
          ∙ sym (ap (map (conjugate_at k s i)) (filter_more met pairs m no_pair inside ∙ ap (λ b. met_pairs k s i d (take m pairs) ++ cond b (pair_at pairs m ∷ []) []) is_met)
          ∙ map-append (conjugate_at k s i) (met_pairs k s i d (take m pairs)) (pair_at pairs m ∷ []));
      small = small_more m before.small (λ so. small);
    }

    pub front_same : met (pair_at pairs m) ≡ false → IsKeptFront (m + 1) row
    front_same other = record {
      values = before.values
          ∙ sym (ap (map (conjugate_at k s i)) (filter_more met pairs m no_pair inside ∙ ap (λ b. met_pairs k s i d (take m pairs) ++ cond b (pair_at pairs m ∷ []) []) other
          ∙ append-nil (met_pairs k s i d (take m pairs))));
      small = small_more m before.small (λ so. absurd (let wrong = sym so ∙ other in cc));
    }

  pub front_all : (m : ℕ) (row : List (List Monomial)) → m ≡ length pairs → IsKeptFront m row → IsKeptRow k s pairs i d row
  front_all m row all front = record {
    values = front.values ∙ ap (λ xs. map (conjugate_at k s i) (met_pairs k s i d xs)) (take_all m pairs (omega (arith, all)));
    small = λ p below. front.small p (omega (arith, below, all));
  }

-- pairs the other way round commute
pub exchanged_commute : (t : Table) (pairs : List Pair) → AreCommuting t pairs → AreCommuting t (map exchanged pairs)
exchanged_commute t pairs are = record {
  first_below = λ m inside. let below = within m inside in rw (turned m below) (are.second_below m below);
  second_below = λ m inside. let below = within m inside in rw (turned m below) (are.first_below m below);
  commute = λ m inside. let below = within m inside in rw (turned m below) (sym (are.commute m below));
}
  where
    within : (m : ℕ) → m < length (map exchanged pairs) → m < length pairs
    within m inside = omega (arith, inside, length-map pairs exchanged)

    turned : (m : ℕ) → m < length pairs → pair_at (map exchanged pairs) m ≡ exchanged (pair_at pairs m)
    turned m below = get_or-map exchanged pairs m no_pair no_pair below
