-- Lists of numbers made place by place, and compared.
use Rattle.centre_algebra.proofs.Names.{◌≡◌, ℕ, zero, suc, ◌+◌, ◌<◌, ◌≤◌, List, [], ◌∷◌, ◌++◌, length, length-append, get_or, refl, sym, ◌∙◌, ap, arith, inl, inr, ◌⊎◌, cases_lt, ap₂, Each, Pairwise, IsBefore}
use Rattle.std.proofs.Math.Numerals.{add-one}
use Rattle.std.proofs.lemmas.List.{get_or_append_left, get_or_push}

-- f 0, f 1, .., f (n - 1)
abbrev pub tabled : ℕ → (ℕ → ℕ) → List ℕ
tabled zero f = []
tabled (suc n) f = tabled n f ++ f n ∷ []

pub length-tabled : (n : ℕ) (f : ℕ → ℕ) → length (tabled n f) ≡ n
length-tabled zero f = refl
length-tabled (suc n) f = length-append (tabled n f) (f n ∷ []) ∙ ap (λ m. m + 1) (length-tabled n f) ∙ add-one n

pub tabled_at : (n : ℕ) (f : ℕ → ℕ) (i : ℕ) → i < n → get_or (tabled n f) i 0 ≡ f i
tabled_at zero f i h = absurd (omega arith)
tabled_at (suc n) f i h = by (λ k. tabled_at n f i k) (cases_lt i n)
  where
    by : (i < n → get_or (tabled n f) i 0 ≡ f i) → (i < n) ⊎ (n ≤ i) → get_or (tabled n f ++ f n ∷ []) i 0 ≡ f i
    by before (inl k) = get_or_append_left (tabled n f) (f n ∷ []) 0 i (let l = length-tabled n f in omega arith) ∙ before k
    by before (inr k) = let e : i ≡ n = omega arith in get_or_push (tabled n f) (f n) 0 i (length-tabled n f ∙ sym e) ∙ ap f (sym e)

-- lists of one length with equal numbers are equal
pub lists_equal : (xs ys : List ℕ) → length xs ≡ length ys → ((i : ℕ) → i < length xs → get_or xs i 0 ≡ get_or ys i 0) → xs ≡ ys
lists_equal [] [] l h = refl
lists_equal [] (y ∷ ys) l h = absurd (omega arith)
lists_equal (x ∷ xs) [] l h = absurd (omega arith)
lists_equal (x ∷ xs) (y ∷ ys) l h = ap₂ (λ a bs. a ∷ bs) (h 0 (omega arith)) (lists_equal xs ys (omega arith) (λ i k. h (suc i) (omega arith)))

-- a list comes before another by the first number at which they differ
pub before_at : (p : ℕ) (xs ys : List ℕ) → p < length xs → p < length ys → ((j : ℕ) → j < p → get_or xs j 0 ≡ get_or ys j 0) → get_or xs p 0 < get_or ys p 0 → IsBefore xs ys
before_at p [] ys h k same less = absurd (omega arith)
before_at p (x ∷ xs) [] h k same less = absurd (omega arith)
before_at zero (x ∷ xs) (y ∷ ys) h k same less = inl less
before_at (suc p) (x ∷ xs) (y ∷ ys) h k same less = inr (same 0 (omega arith), before_at p xs ys (omega arith) (omega arith) (λ j l. same (suc j) (omega arith)) less)

-- R holds of the elements at equal places
abbrev pub Zipped : {X Y : Type 0} → (X → Y → Type 0) → List X → List Y → Type 0
Zipped R [] [] = Unit {0}
Zipped R [] (y ∷ ys) = ⊥
Zipped R (x ∷ xs) [] = ⊥
Zipped R (x ∷ xs) (y ∷ ys) = R x y × Zipped R xs ys

module _ {X Y : Type 0} (R : X → Y → Type 0) where
  pub zipped_each : (P : X → Type 0) (Q : Y → Type 0) → ((x : X) (y : Y) → P x → R x y → Q y) → (xs : List X) (ys : List Y) → Zipped R xs ys → Each P xs → Each Q ys
  zipped_each P Q f [] [] z h = tt
  zipped_each P Q f [] (y ∷ ys) z h = absurd z
  zipped_each P Q f (x ∷ xs) [] z h = absurd z
  zipped_each P Q f (x ∷ xs) (y ∷ ys) z h = (f x y h.0 z.0, zipped_each P Q f xs ys z.1 h.1)

  pub zipped_pairwise : (P : X → X → Type 0) (Q : Y → Y → Type 0) (O : X → Type 0) → ((x w : X) (y v : Y) → O x → O w → P x w → R x y → R w v → Q y v)
      → (xs : List X) (ys : List Y) → Zipped R xs ys → Each O xs → Pairwise P xs → Pairwise Q ys
  zipped_pairwise P Q O f [] [] z o h = tt
  zipped_pairwise P Q O f [] (y ∷ ys) z o h = absurd z
  zipped_pairwise P Q O f (x ∷ xs) [] z o h = absurd z
  zipped_pairwise P Q O f (x ∷ xs) (y ∷ ys) z o h = (later xs ys z.1 o.1 h.0, zipped_pairwise P Q O f xs ys z.1 o.1 h.1)
    where
      later : (ws : List X) (vs : List Y) → Zipped R ws vs → Each O ws → Each (P x) ws → Each (Q y) vs
      later [] [] a b c = tt
      later [] (v ∷ vs) a b c = absurd a
      later (w ∷ ws) [] a b c = absurd a
      later (w ∷ ws) (v ∷ vs) a b c = (f x w y v o.0 b.0 c.0 z.0 a.0, later ws vs a.1 b.1 c.1)

  pub zipped_length : (xs : List X) (ys : List Y) → Zipped R xs ys → length xs ≡ length ys
  zipped_length [] [] z = refl
  zipped_length [] (y ∷ ys) z = absurd z
  zipped_length (x ∷ xs) [] z = absurd z
  zipped_length (x ∷ xs) (y ∷ ys) z = ap suc (zipped_length xs ys z.1)
