-- Sums over the numbers below a bound, and what a double count gives.
use Rattle.std.proofs.Common.{◌≡◌, ◌≢◌, ℕ, zero, suc, ◌+◌, ◌*◌, ◌<◌, Bool, cond, eqb, refl, sym, ap, ap₂, ◌∙◌, inl, inr, arith, eq-eqb, ne_eqb}
use Rattle.std.proofs.lemmas.Bool.{cases_eq}
use Rattle.std.proofs.lemmas.Bool.Decides.{nat_tests}

-- f 0 + .. + f (n - 1)
unfoldable pub total : ℕ → (ℕ → ℕ) → ℕ
total zero f = 0
total (suc n) f = total n f + f n

-- v where the test holds, and otherwise 0
abbrev pub pick : Bool → ℕ → ℕ
pick b v = cond b v 0

-- terms that agree have one sum
pub total_same : (n : ℕ) (f g : ℕ → ℕ) → ((i : ℕ) → i < n → f i ≡ g i) → total n f ≡ total n g
unfolding total
total_same zero f g h = refl
total_same (suc n) f g h = ap₂ (λ a b. a + b) (total_same n f g (λ i p. h i (omega arith))) (h n (omega arith))

-- a sum of noughts
pub total_nought : (n : ℕ) (f : ℕ → ℕ) → ((i : ℕ) → i < n → f i ≡ 0) → total n f ≡ 0
unfolding total
total_nought zero f h = refl
total_nought (suc n) f h = omega (arith, total_nought n f (λ i p. h i (omega arith)), h n (omega arith))

-- the sum of sums, term by term
pub total_add : (n : ℕ) (f g : ℕ → ℕ) → total n (λ i. f i + g i) ≡ total n f + total n g
unfolding total
total_add zero f g = refl
total_add (suc n) f g = omega (arith, total_add n f g)

-- n terms c
pub total_constant : (n c : ℕ) → total n (λ i. c) ≡ n * c
unfolding total
total_constant zero c = omega arith
total_constant (suc n) c = omega (arith, total_constant n c)

-- the rows' sums and the columns' sums add up to the same
pub total_exchange : (n m : ℕ) (f : ℕ → ℕ → ℕ) → total n (λ i. total m (f i)) ≡ total m (λ j. total n (λ i. f i j))
unfolding total
total_exchange zero m f = sym (total_nought m (λ j. 0) (λ i p. refl))
total_exchange (suc n) m f =
    ap (λ a. a + total m (f n)) (total_exchange n m f) ∙ sym (total_add m (λ j. total n (λ i. f i j)) (f n))

-- a sum with one term that counts
pub total_at : (n : ℕ) (f : ℕ → ℕ) (p : ℕ) → p < n → ((i : ℕ) → i < n → i ≢ p → f i ≡ 0) → total n f ≡ f p
unfolding total
total_at zero f p lt others = absurd (omega arith)
total_at (suc n) f p lt others =
    elim (cases_eq p n) [
      | inl same ↦ omega (arith, total_nought n f (λ i q. others i (omega arith) (λ e. omega arith)), ap f same)
      | inr apart ↦ omega (arith, total_at n f p (omega arith) (λ i q d. others i (omega arith) d), others n (omega arith) (λ e. omega arith))
    ]

-- the value is picked where the numbers agree
pick_same : (x y v : ℕ) → x ≡ y → pick (eqb x y) v ≡ v
pick_same x y v e = rw (eq-eqb x y e)

-- and 0 where they differ
pick_other : (x y v : ℕ) → x ≢ y → pick (eqb x y) v ≡ 0
pick_other x y v d = rw (ne_eqb x y d)

-- the one y below n that is p: the value there
pub total_pick : (n : ℕ) (f : ℕ → ℕ) (p : ℕ) → p < n → total n (λ y. pick (eqb y p) (f y)) ≡ f p
total_pick n f p lt =
    total_at n (λ y. pick (eqb y p) (f y)) p lt (λ y q d. pick_other y p (f y) d) ∙ pick_same p p (f p) refl

-- a permutation of the places leaves the sum
pub total_permuted : (n : ℕ) (f to from : ℕ → ℕ) → ((x : ℕ) → x < n → to x < n) → ((x : ℕ) → x < n → from x < n) →
    ((x : ℕ) → x < n → from (to x) ≡ x) → ((x : ℕ) → x < n → to (from x) ≡ x) → total n (λ x. f (to x)) ≡ total n f
total_permuted n f to from to_below from_below back forth =
    total_same n (λ x. f (to x)) (λ x. total n (λ y. pick (eqb y (to x)) (f y))) (λ x p. sym (total_pick n f (to x) (to_below x p)))
    ∙ total_exchange n n (λ x y. pick (eqb y (to x)) (f y))
    ∙ total_same n (λ y. total n (λ x. pick (eqb y (to x)) (f y))) f column
  where
    column : (y : ℕ) → y < n → total n (λ x. pick (eqb y (to x)) (f y)) ≡ f y
    column y p =
        total_at n (λ x. pick (eqb y (to x)) (f y)) (from y) (from_below y p)
        (λ x q d. pick_other y (to x) (f y) (λ e. d (sym (back x q) ∙ ap from (sym e))))
        ∙ pick_same y (to (from y)) (f y) (sym (forth y p))

-- of n + 1 numbers below n two are the same
pub pigeonhole : (n : ℕ) (f : ℕ → ℕ) → ((i : ℕ) → i < suc n → f i < n) → ((i j : ℕ) → i < j → j < suc n → f i ≢ f j) → ⊥
pigeonhole zero f below differ = absurd (omega (arith, below 0 (omega arith)))
pigeonhole (suc n) f below differ =
    -- the last number stands where n stood
    let moved : ℕ → ℕ = λ i. cond (eqb (f i) n) (f (suc n)) (f i) in
    pigeonhole n moved
    (λ i p. grind (arith, nat_tests, below i (omega arith), below (suc n) (omega arith), differ i (suc n) (omega arith) (omega arith)))
    (λ i j p q e. grind
    (arith, nat_tests, e, differ i j p (omega arith), differ i (suc n) (omega arith) (omega arith), differ j (suc n) (omega arith) (omega arith)))
