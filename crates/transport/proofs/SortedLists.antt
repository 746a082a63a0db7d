-- A list in ascending order is told by how often each element stands in it.
use Rattle.transport.proofs.Names.{◌≡◌, ℕ, zero, suc, ◌+◌, ◌<◌, ◌≤◌, Bool, true, false, cond, List, [], ◌∷◌, length, get_or, refl, sym, ap, ap₂, ◌∙◌, arith, sum_by, sum_by-cons, ⊤}

module _ {X : Type 0} (less : X → X → Bool) where
  -- no element is less than x
  abbrev pub Above : X → List X → Type 0
  Above x [] = ⊤
  Above x (y ∷ ys) = (less y x ≡ false) × Above x ys

  -- no element is less than an earlier one
  abbrev pub Ascends : List X → Type 0
  Ascends [] = ⊤
  Ascends (x ∷ xs) = Above x xs × Ascends xs

  pub above_at : (a : X) (xs : List X) (j : ℕ) → j < length xs → (d : X) → Above a xs → less (get_or xs j d) a ≡ false
  above_at a [] j below d up = absurd (omega (arith, below))
  above_at a (x ∷ xs) zero below d up = up.0
  above_at a (x ∷ xs) (suc j) below d up = above_at a xs j (omega (arith, below)) d up.1

  above_of : (x : X) (xs : List X) → ((k : ℕ) → k < length xs → less (get_or xs k x) x ≡ false) → Above x xs
  above_of x [] h = tt
  above_of x (y ∷ ys) h = (h 0 (omega arith), above_of x ys (λ k p. h (suc k) (omega arith)))

  pub ascends_of : (xs : List X) → ((i j : ℕ) (d : X) → i ≤ j → j < length xs → less (get_or xs j d) (get_or xs i d) ≡ false) → Ascends xs
  ascends_of [] h = tt
  ascends_of (x ∷ xs) h = (above_of x xs (λ k p. h 0 (suc k) x (omega arith) (omega arith)), ascends_of xs (λ i j d p q. h (suc i) (suc j) d (omega arith) (omega arith)))

  none_less : (x : X) (ys : List X) → Above x ys → sum_by (λ z. cond (less z x) 1 0) ys ≡ 0
  none_less x [] h = refl
  none_less x (y ∷ ys) h = sum_by-cons (λ z. cond (less z x) 1 0) y ys ∙ ap₂ (λ b n. cond b 1 0 + n) h.0 (none_less x ys h.1)

  not_less : (b : Bool) (n : ℕ) → cond b 1 0 + n ≡ 0 → b ≡ false
  not_less true n e = absurd (omega (arith, e))
  not_less false n e = refl

  module _ (irreflexive : (x : X) → less x x ≡ false) (decides : (x y : X) → less x y ≡ false → less y x ≡ false → x ≡ y) where
    first_least : (x y : X) (xs ys : List X) → Above y ys → ((f : X → ℕ) → sum_by f (x ∷ xs) ≡ sum_by f (y ∷ ys)) → less x y ≡ false
    first_least x y xs ys above same =
        not_less (less x y) (sum_by (λ z. cond (less z y) 1 0) xs)
        (sym (sum_by-cons (λ z. cond (less z y) 1 0) x xs) ∙ same (λ z. cond (less z y) 1 0) ∙ none_less y (y ∷ ys) (irreflexive y, above))

    some_sum : (y : X) (ys : List X) → 0 ≡ sum_by (λ z. 1) (y ∷ ys) → ⊥
    some_sum y ys e = omega (arith, e, sum_by-cons (λ (z : X). 1) y ys)

    rest_sum : (a b m n : ℕ) → a ≡ b → a + m ≡ b + n → m ≡ n
    rest_sum a b m n e same = omega (arith, e, same)

    pub same_list : (xs ys : List X) → Ascends xs → Ascends ys → ((f : X → ℕ) → sum_by f xs ≡ sum_by f ys) → xs ≡ ys
    same_list [] [] a b same = refl
    same_list [] (y ∷ ys) a b same = absurd (some_sum y ys (same (λ z. 1)))
    same_list (x ∷ xs) [] a b same = absurd (some_sum x xs (sym (same (λ z. 1))))
    same_list (x ∷ xs) (y ∷ ys) a b same =
        let equal = decides x y (first_least x y xs ys b.0 same) (first_least y x ys xs a.0 (λ f. sym (same f))) in
        ap₂ (λ z zs. z ∷ zs) equal
        (same_list xs ys a.1 b.1 (λ f. rest_sum (f x) (f y) (sum_by f xs) (sum_by f ys) (ap f equal) (sym (sum_by-cons f x xs) ∙ same f ∙ sum_by-cons f y ys)))
