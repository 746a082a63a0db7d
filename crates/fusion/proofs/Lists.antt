-- Lists while they grow, each item with the property of its place.
use Rattle.std.proofs.Common.{◌≡◌, ◌+◌, ◌<◌, ℕ, List, [], ◌∷◌, ◌++◌, length, get_or, refl, sym, subst, ap, ◌∙◌, inl, inr, arith, length-append}
use Rattle.std.proofs.lemmas.Bool.{cases_eq}
use Rattle.std.proofs.lemmas.List.{get_or_push, get_or_append_left}
use Rattle.fusion.specs.Kept.{AreAt}

-- some item of a list that has one
pub some_of : {A : Type 0} (xs : List A) (p : ℕ) → p < length xs → A
some_of [] p inside = absurd (omega (arith, inside))
some_of (x ∷ xs) p inside = x

module _ {A : Type 0} (holds : ℕ → A → Type 0) where
  -- no items
  pub none_at : (xs : List A) → xs ≡ [] → AreAt holds 0 xs
  none_at xs none = record { count_is = ap length none; each = λ p otherwise inside. absurd (omega (arith, inside)) }

  -- one more item
  pub one_more : (n : ℕ) (xs ys : List A) (x : A) → ys ≡ xs ++ x ∷ [] → AreAt holds n xs → holds n x → AreAt holds (n + 1) ys
  one_more n xs ys x pushed before last = subst (AreAt holds (n + 1)) (sym pushed) (record { count_is = length-append xs (x ∷ []) ∙ ap (λ m. m + 1) before.count_is; each = each })
    where
      each : (p : ℕ) (otherwise : A) → p < n + 1 → holds p (get_or (xs ++ x ∷ []) p otherwise)
      each p otherwise inside = elim (cases_eq p n) [
        | inl e ↦ subst (λ q. holds q (get_or (xs ++ x ∷ []) q otherwise)) (sym e) (subst (holds n) (sym (get_or_push xs x otherwise n before.count_is)) last)
        | inr apart ↦
            let below : p < n = omega (arith, inside, apart) in
            subst (holds p) (sym (get_or_append_left xs (x ∷ []) otherwise p (omega (arith, below, before.count_is)))) (before.each p otherwise below)
      ]

  -- the item that was read at a place
  pub item_read : (n : ℕ) (xs : List A) (p : ℕ) (x : A) → AreAt holds n xs → p < n → x ≡ get_or xs p x → holds p x
  item_read n xs p x are inside read = subst (holds p) (sym read) (are.each p x inside)

  -- one more item, with the property of a number that is added to a list
  pub one_more_place : (places : List ℕ) (p : ℕ) (xs ys : List A) (x : A) → ys ≡ xs ++ x ∷ [] → AreAt (λ q. holds (get_or places q 0)) (length places) xs → holds p x
      → AreAt (λ q. holds (get_or (places ++ p ∷ []) q 0)) (length (places ++ p ∷ [])) ys
  one_more_place places p xs ys x pushed before last =
      subst (λ n. AreAt (λ q. holds (get_or (places ++ p ∷ []) q 0)) n ys) (sym (length-append places (p ∷ []))) (record { count_is = count; each = each })
    where
      more : List ℕ
      more = places ++ p ∷ []

      count : length ys ≡ length places + 1
      count = ap length pushed ∙ length-append xs (x ∷ []) ∙ ap (λ m. m + 1) before.count_is

      each : (q : ℕ) (otherwise : A) → q < length places + 1 → holds (get_or (places ++ p ∷ []) q 0) (get_or ys q otherwise)
      each q otherwise inside = elim (cases_eq q (length places)) [
        | inl e ↦
            subst (λ ys. holds (get_or more q 0) (get_or ys q otherwise)) (sym pushed)
            (subst (λ r. holds (get_or more r 0) (get_or (xs ++ x ∷ []) r otherwise)) (sym e)
            (subst (holds (get_or more (length places) 0)) (sym (get_or_push xs x otherwise (length places) before.count_is))
            (subst (λ r. holds r x) (sym (get_or_push places p 0 (length places) refl)) last)))
        | inr apart ↦
            let below : q < length places = omega (arith, inside, apart) in
            subst (λ ys. holds (get_or more q 0) (get_or ys q otherwise)) (sym pushed)
            (subst (holds (get_or more q 0)) (sym (get_or_append_left xs (x ∷ []) otherwise q (omega (arith, below, before.count_is))))
            (subst (λ r. holds r (get_or xs q otherwise)) (sym (get_or_append_left places (p ∷ []) 0 q below)) (before.each q otherwise below)))
      ]
