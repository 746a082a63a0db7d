-- The first number of a column that is a multiple: in an ascending column it is the least.
use Rattle.cyclotomic.proofs.Names.{◌≡◌, ◌≢◌, ℕ, ◌%◌, ◌≤◌, Bool, true, false, cond, List, [], ◌∷◌, map, Option, Some, None, refl, sym, ap, subst, ◌∙◌, ◌&&◌, ◌||◌, inl, inr, eqb-true, eq-eqb, ◌==◌, nat_le, find, list_all, list_any, cases_eq, ne_eqb, leb-true, conductors, is_conductor, least_conductor, IsLeastConductor}
use Rattle.std.proofs.Math.Bool.{or-true}
use Rattle.cyclotomic.proofs.Tests.{and_left, and_right, all_entries}

-- k stands in the first column
stands : ℕ → List (ℕ × ℕ) → Bool
stands k entries = list_any (λ (entry : ℕ × ℕ). entry.0 == k) entries

ascends : List (ℕ × ℕ) → Bool
ascends [] = true
ascends (first ∷ rest) = list_all (λ (entry : ℕ × ℕ). nat_le first.0 entry.0) (first ∷ rest) && ascends rest

-- what a search for a multiple of m means
Searched : ℕ → List (ℕ × ℕ) → Option ℕ → Type 0
Searched m entries None = (j : ℕ) → stands j entries ≡ true → j % m ≢ 0
Searched m entries (Some k) = (stands k entries ≡ true) × (k % m ≡ 0) × ((j : ℕ) → stands j entries ≡ true → j % m ≡ 0 → k ≤ j)

module _ (m : ℕ) (first : ℕ × ℕ) (rest : List (ℕ × ℕ)) where
  -- a multiple doesn't stand first where the first isn't one
  later : (first.0 % m == 0) ≡ false → (j : ℕ) → stands j (first ∷ rest) ≡ true → j % m ≡ 0 → stands j rest ≡ true
  unfolding stands
  later not_first j found divides = elim (cases_eq first.0 j) [
    | inl same ↦ absurd (let passes = eq-eqb (first.0 % m) 0 (ap (λ i. i % m) same ∙ divides) in cc)
    | inr apart ↦ sym (ap (λ b. b || list_any (λ (e : ℕ × ℕ). e.0 == j) rest) (ne_eqb first.0 j apart)) ∙ found
  ]

  searched_later : (found : Option ℕ) → (first.0 % m == 0) ≡ false → Searched m rest found → Searched m (first ∷ rest) found
  unfolding Searched stands
  searched_later None not_first none = λ j found divides. none j (later not_first j found divides) divides
  searched_later (Some k) not_first (found, divides, least) = (
    ap (λ b. (first.0 == k) || b) found ∙ or-true (first.0 == k),
    divides,
    λ j stands divides. least j (later not_first j stands divides) divides,
  )

searched : (m : ℕ) (entries : List (ℕ × ℕ)) → ascends entries ≡ true → Searched m entries (find (λ n. n % m == 0) (map (λ (entry : ℕ × ℕ). entry.0) entries))
unfolding Searched stands ascends
searched m [] ascending = λ j found. cc
searched m (first ∷ rest) ascending = here (first.0 % m == 0) refl (searched m rest (and_right others (ascends rest) ascending))
  where
    others : Bool
    others = list_all (λ (entry : ℕ × ℕ). nat_le first.0 entry.0) (first ∷ rest)

    later_found : Option ℕ
    later_found = find (λ n. n % m == 0) (map (λ (entry : ℕ × ℕ). entry.0) rest)

    here : (test : Bool) → (first.0 % m == 0) ≡ test → Searched m rest later_found
        → Searched m (first ∷ rest) (cond test (Some first.0) later_found)
    here true is after = (
      ap (λ b. b || stands first.0 rest) (eq-eqb first.0 first.0 refl),
      eqb-true (first.0 % m) 0 is,
      λ j found divides. leb-true first.0 j (all_entries (nat_le first.0) j (first ∷ rest) (and_left others (ascends rest) ascending) found),
    )
    here false is after = searched_later m first rest later_found is after

conductors_ascend : ascends conductors ≡ true
unfolding ascends conductors
conductors_ascend = refl

pub least_is_least : (m k : ℕ) → least_conductor m ≡ Some k → IsLeastConductor m k
unfolding least_conductor is_conductor Searched stands
least_is_least m k e =
    let (conductor, multiple, least) = subst (Searched m conductors) e (searched m conductors conductors_ascend) in
    record { conductor = conductor; multiple = multiple; least = least }

pub none_is_none : (m k : ℕ) → least_conductor m ≡ None → is_conductor k ≡ true → k % m ≢ 0
unfolding least_conductor is_conductor Searched stands
none_is_none m k e = subst (Searched m conductors) e (searched m conductors conductors_ascend) k
