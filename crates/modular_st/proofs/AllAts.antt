-- Properties of elements at their places.
use Rattle.modular_st.proofs.Names.{◌≡◌, ◌<◌, ℕ, List, [], ◌∷◌, ◌++◌, length, get_or, sym, subst, ap, inl, inr, arith, length-append, cases_eq, get_or_push, get_or_append_left, AllAt}

-- some element of a list that has one
pub some_of : {A : Type 0} (xs : List A) (p : ℕ) → p < length xs → A
some_of [] p inside = absurd (omega (arith, inside))
some_of (x ∷ xs) p inside = x

module _ {A : Type 0} (holds : ℕ → A → Type 0) where
  -- no elements
  pub none_at : (xs : List A) → xs ≡ [] → AllAt holds xs
  none_at xs none p otherwise inside = absurd (omega (arith, inside, ap length none))

  -- one more element
  pub one_more_at : (xs : List A) (n : ℕ) (x : A) → length xs ≡ n → AllAt holds xs → holds n x → AllAt holds (xs ++ x ∷ [])
  one_more_at xs n x count before last p otherwise inside = elim (cases_eq p n) [
    | inl e ↦ subst (λ q. holds q (get_or (xs ++ x ∷ []) q otherwise)) (sym e) (subst (holds n) (sym (get_or_push xs x otherwise n count)) last)
    | inr apart ↦
        let below : p < length xs = omega (arith, inside, length-append xs (x ∷ []), count, apart) in
        subst (holds p) (sym (get_or_append_left xs (x ∷ []) otherwise p below)) (before p otherwise below)
  ]
