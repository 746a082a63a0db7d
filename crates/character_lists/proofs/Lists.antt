-- Lists in ascending order are known by their elements; and the lists of numbers below a bound.
use Rattle.character_lists.proofs.Names.{◌≡◌, ℕ, zero, suc, ◌<◌, Bool, true, false, List, [], ◌∷◌, ◌++◌, length, map, get_or, cond, refl, sym, ap, ◌∙◌, subst, arith, ◌⊎◌, inl, inr, Contains, filter, ap₂, Each, Pairwise, IsBefore}
use Rattle.std.proofs.lemmas.List.Elements.{Contains-append_left, Contains-append_right}
use Rattle.prime_field.specs.ResidueLists.{AreBelow}
use Rattle.splitting_theory.proofs.Lists.{each_append, each_all, each_map, pairwise_append}
use Rattle.character_lists.specs.CharacterLists.{with_heads_below, number_lists}

-- ---- elements
pub in_rest : {X : Type 0} (x y : X) (xs : List X) → Contains xs y → Contains (x ∷ xs) y
in_rest x y xs there = (suc there.0, omega (arith, there.1), there.2)

pub at_head : {X : Type 0} (x : X) (xs : List X) → Contains (x ∷ xs) x
at_head x xs = (0, omega arith, refl)

pub head_or_rest : {X : Type 0} (x y : X) (xs : List X) → Contains (x ∷ xs) y → (x ≡ y) ⊎ Contains xs y
head_or_rest {X} x y xs there = by_place there.0 there.1 there.2
  where
    by_place : (k : ℕ) → k < suc (length xs) → get_or (x ∷ xs) k y ≡ y → (x ≡ y) ⊎ Contains xs y
    by_place zero below found = inl found
    by_place (suc k) below found = inr (k, omega arith, found)

in_none : {X : Type 0} (y : X) → Contains [] y → ⊥
in_none y there = let below = there.1 in absurd (omega arith)

pub each_at : {X : Type 0} (P : X → Type 0) (xs : List X) (y : X) → Each P xs → Contains xs y → P y
each_at P [] y each there = absurd (in_none y there)
each_at P (x ∷ xs) y each there =
    elim (head_or_rest x y xs there) [
      | inl here ↦ subst P here each.0
      | inr rest ↦ each_at P xs y each.1 rest
    ]

module _ {X : Type 0} (test : X → Bool) where
  pub in_filter : (xs : List X) (y : X) → Contains xs y → test y ≡ true → Contains (filter test xs) y
  in_filter [] y there passes = absurd (in_none y there)
  in_filter (x ∷ xs) y there passes =
      elim (head_or_rest x y xs there) [
        | inl here ↦ first (test x) (ap test here ∙ passes) here
        | inr rest ↦ later (test x) (in_filter xs y rest passes)
      ]
    where
      first : (b : Bool) → b ≡ true → x ≡ y → Contains (cond b (x ∷ filter test xs) (filter test xs)) y
      first true e here = subst (Contains (x ∷ filter test xs)) here (at_head x (filter test xs))
      first false e here = absurd cc

      later : (b : Bool) → Contains (filter test xs) y → Contains (cond b (x ∷ filter test xs) (filter test xs)) y
      later true inside = in_rest x y (filter test xs) inside
      later false inside = inside

  pub each_filter : (P Q : X → Type 0) → ((x : X) → P x → test x ≡ true → Q x) → (xs : List X) → Each P xs → Each Q (filter test xs)
  each_filter P Q kept [] each = tt
  each_filter P Q kept (x ∷ xs) each = by (each_filter P Q kept xs each.1) (test x) refl
    where
      by : Each Q (filter test xs) → (b : Bool) → test x ≡ b → Each Q (cond b (x ∷ filter test xs) (filter test xs))
      by rest true passes = (kept x each.0 passes, rest)
      by rest false fails = rest

  pub pairwise_filter : (R : X → X → Type 0) (xs : List X) → Pairwise R xs → Pairwise R (filter test xs)
  pairwise_filter R [] pairs = tt
  pairwise_filter R (x ∷ xs) pairs =
      by (each_filter (R x) (R x) (λ y before passes. before) xs pairs.0) (pairwise_filter R xs pairs.1) (test x)
    where
      by : Each (R x) (filter test xs) → Pairwise R (filter test xs) → (b : Bool) → Pairwise R (cond b (x ∷ filter test xs) (filter test xs))
      by head rest true = (head, rest)
      by head rest false = rest

-- ---- two lists in ascending order with the same elements are one
module _ {X : Type 0} (R : X → X → Type 0) (irreflexive : (x : X) → R x x → ⊥) (transitive : (x y z : X) → R x y → R y z → R x z) where
  pub same_ascending : (xs ys : List X) → Pairwise R xs → Pairwise R ys → ((z : X) → Contains xs z → Contains ys z) → ((z : X) → Contains ys z → Contains xs z)
      → xs ≡ ys
  same_ascending [] [] up_xs up_ys there back = refl
  same_ascending [] (y ∷ ys) up_xs up_ys there back = absurd (in_none y (back y (at_head y ys)))
  same_ascending (x ∷ xs) [] up_xs up_ys there back = absurd (in_none x (there x (at_head x xs)))
  same_ascending (x ∷ xs) (y ∷ ys) up_xs up_ys there back =
      ap₂ (λ a b. a ∷ b) heads
      (same_ascending xs ys up_xs.1 up_ys.1 (λ z inside. forth z inside (head_or_rest y z ys (there z (in_rest x z xs inside))))
      (λ z inside. back_again z inside (head_or_rest x z xs (back z (in_rest y z ys inside)))))
    where
      heads : x ≡ y
      heads =
          elim (head_or_rest y x ys (there x (at_head x xs))) [
            | inl same ↦ sym same
            | inr after_y ↦
                elim (head_or_rest x y xs (back y (at_head y ys))) [
                  | inl same ↦ same
                  | inr after_x ↦ absurd (irreflexive x (transitive x y x (each_at (R x) xs y up_xs.0 after_x) (each_at (R y) ys x up_ys.0 after_y)))
                ]
          ]

      forth : (z : X) → Contains xs z → (y ≡ z) ⊎ Contains ys z → Contains ys z
      forth z inside (inr rest) = rest
      forth z inside (inl same) = absurd (irreflexive x (subst (R x) (sym same ∙ sym heads) (each_at (R x) xs z up_xs.0 inside)))

      back_again : (z : X) → Contains ys z → (x ≡ z) ⊎ Contains xs z → Contains xs z
      back_again z inside (inr rest) = rest
      back_again z inside (inl same) = absurd (irreflexive y (subst (R y) (sym same ∙ heads) (each_at (R y) ys z up_ys.0 inside)))

-- ---- lists of numbers by the first number at which they differ
pub not_before_itself : (xs : List ℕ) → IsBefore xs xs → ⊥
not_before_itself [] before = before
not_before_itself (x ∷ xs) (inl less) = absurd (omega (arith, less))
not_before_itself (x ∷ xs) (inr same) = not_before_itself xs same.1

pub before_before : (xs ys zs : List ℕ) → IsBefore xs ys → IsBefore ys zs → IsBefore xs zs
before_before [] ys zs first second = absurd first
before_before (x ∷ xs) [] zs first second = absurd first
before_before (x ∷ xs) (y ∷ ys) [] first second = absurd second
before_before (x ∷ xs) (y ∷ ys) (z ∷ zs) (inl less) (inl more) = inl (omega (arith, less, more))
before_before (x ∷ xs) (y ∷ ys) (z ∷ zs) (inl less) (inr same) = inl (omega (arith, less, same.0))
before_before (x ∷ xs) (y ∷ ys) (z ∷ zs) (inr same) (inl more) = inl (omega (arith, same.0, more))
before_before (x ∷ xs) (y ∷ ys) (z ∷ zs) (inr same) (inr again) = inr (same.0 ∙ again.0, before_before xs ys zs same.1 again.1)

-- ---- all lists of n numbers below q
pub record IsNumberList (q n : ℕ) (numbers : List ℕ) : Type 0 where
  pub count : length numbers ≡ n
  pub below : AreBelow q numbers

with_heads_zero : (lists : List (List ℕ)) → with_heads_below zero lists ≡ []
unfolding with_heads_below
with_heads_zero lists = refl

with_heads_suc : (b : ℕ) (lists : List (List ℕ)) → with_heads_below (suc b) lists ≡ with_heads_below b lists ++ map (λ xs. b ∷ xs) lists
unfolding with_heads_below
with_heads_suc b lists = refl

none_listed : (q : ℕ) → number_lists q zero ≡ [] ∷ []
unfolding number_lists
none_listed q = refl

more_listed : (q n : ℕ) → number_lists q (suc n) ≡ with_heads_below q (number_lists q n)
unfolding number_lists
more_listed q n = refl

-- what holds of each list of the form b ∷ xs
headed_each : (P Q : List ℕ → Type 0) (b : ℕ) → ((xs : List ℕ) → P xs → Q (b ∷ xs)) → (lists : List (List ℕ)) → Each P lists → Each Q (map (λ xs. b ∷ xs) lists)
headed_each P Q b holds [] each = tt
headed_each P Q b holds (xs ∷ lists) each = (holds xs each.0, headed_each P Q b holds lists each.1)

heads_each : (P Q : List ℕ → Type 0) (b : ℕ) → ((x : ℕ) (xs : List ℕ) → x < b → P xs → Q (x ∷ xs)) → (lists : List (List ℕ)) → Each P lists → Each Q (with_heads_below b lists)
heads_each P Q zero holds lists each = subst (Each Q) (sym (with_heads_zero lists)) tt
heads_each P Q (suc b) holds lists each =
    subst (Each Q) (sym (with_heads_suc b lists))
    (each_append Q (with_heads_below b lists) (map (λ xs. b ∷ xs) lists) (heads_each P Q b (λ x xs below is. holds x xs (omega arith) is) lists each)
    (headed_each P Q b (λ xs is. holds b xs (omega arith) is) lists each))

headed_pairs : (b : ℕ) (lists : List (List ℕ)) → Pairwise IsBefore lists → Pairwise IsBefore (map (λ xs. b ∷ xs) lists)
headed_pairs b [] pairs = tt
headed_pairs b (xs ∷ lists) pairs =
    (headed_each (IsBefore xs) (IsBefore (b ∷ xs)) b (λ ys before. inr (refl, before)) lists pairs.0, headed_pairs b lists pairs.1)

-- a list whose head is below b
abbrev begins_below : ℕ → List ℕ → Type 0
begins_below b [] = ⊥
begins_below b (x ∷ xs) = x < b

heads_pairs : (b : ℕ) (lists : List (List ℕ)) → Pairwise IsBefore lists → Pairwise IsBefore (with_heads_below b lists)
heads_pairs zero lists pairs = subst (Pairwise IsBefore) (sym (with_heads_zero lists)) tt
heads_pairs (suc b) lists pairs =
    subst (Pairwise IsBefore) (sym (with_heads_suc b lists))
    (pairwise_append IsBefore (with_heads_below b lists) (map (λ xs. b ∷ xs) lists) (heads_pairs b lists pairs) (headed_pairs b lists pairs)
    (each_map (begins_below b) (λ xs. Each (IsBefore xs) (map (λ ys. b ∷ ys) lists)) across (with_heads_below b lists)
    (heads_each (λ xs. Unit {0}) (begins_below b) b (λ x xs below is. below) lists (each_all (λ xs. Unit {0}) (λ xs. tt) lists))))
  where
    across : (xs : List ℕ) → begins_below b xs → Each (IsBefore xs) (map (λ ys. b ∷ ys) lists)
    across [] begins = absurd begins
    across (x ∷ xs) begins = headed_each (λ ys. Unit {0}) (IsBefore (x ∷ xs)) b (λ ys is. inl begins) lists (each_all (λ ys. Unit {0}) (λ ys. tt) lists)

headed_in : (b : ℕ) (lists : List (List ℕ)) (xs : List ℕ) → Contains lists xs → Contains (map (λ ys. b ∷ ys) lists) (b ∷ xs)
headed_in b [] xs there = absurd (in_none xs there)
headed_in b (ys ∷ lists) xs there =
    elim (head_or_rest ys xs lists there) [
      | inl here ↦ subst (λ zs. Contains (map (λ ws. b ∷ ws) (ys ∷ lists)) (b ∷ zs)) here (at_head (b ∷ ys) (map (λ ws. b ∷ ws) lists))
      | inr rest ↦ in_rest (b ∷ ys) (b ∷ xs) (map (λ ws. b ∷ ws) lists) (headed_in b lists xs rest)
    ]

heads_in : (b x : ℕ) (lists : List (List ℕ)) (xs : List ℕ) → x < b → Contains lists xs → Contains (with_heads_below b lists) (x ∷ xs)
heads_in zero x lists xs below there = absurd (omega arith)
heads_in (suc b) x lists xs below there =
    subst (λ all. Contains all (x ∷ xs)) (sym (with_heads_suc b lists))
    (elim (below_or_last x b below) [
      | inl less ↦ Contains-append_left (with_heads_below b lists) (map (λ ys. b ∷ ys) lists) (x ∷ xs) (heads_in b x lists xs less there)
      | inr last ↦
          Contains-append_right (with_heads_below b lists) (map (λ ys. b ∷ ys) lists) (x ∷ xs)
          (subst (λ c. Contains (map (λ ys. b ∷ ys) lists) (c ∷ xs)) (sym last) (headed_in b lists xs there))
    ])
  where
    below_or_last : (i n : ℕ) → i < suc n → (i < n) ⊎ (i ≡ n)
    below_or_last i n less = grind arith

pub number_lists_are : (q n : ℕ) → Each (IsNumberList q n) (number_lists q n)
number_lists_are q zero = subst (Each (IsNumberList q zero)) (sym (none_listed q)) (record { count = refl; below = λ k below. absurd (omega arith) }, tt)
number_lists_are q (suc n) =
    subst (Each (IsNumberList q (suc n))) (sym (more_listed q n))
    (heads_each (IsNumberList q n) (IsNumberList q (suc n)) q longer (number_lists q n) (number_lists_are q n))
  where
    longer : (x : ℕ) (xs : List ℕ) → x < q → IsNumberList q n xs → IsNumberList q (suc n) (x ∷ xs)
    longer x xs x_below is = record { count = ap suc is.count; below = below }
      where
        below : AreBelow q (x ∷ xs)
        below zero k_below = x_below
        below (suc k) k_below = is.below k (omega arith)

pub number_lists_ascend : (q n : ℕ) → Pairwise IsBefore (number_lists q n)
number_lists_ascend q zero = subst (Pairwise IsBefore) (sym (none_listed q)) (tt, tt)
number_lists_ascend q (suc n) = subst (Pairwise IsBefore) (sym (more_listed q n)) (heads_pairs q (number_lists q n) (number_lists_ascend q n))

pub in_number_lists : (q n : ℕ) (xs : List ℕ) → IsNumberList q n xs → Contains (number_lists q n) xs
in_number_lists q zero [] is = subst (λ all. Contains all []) (sym (none_listed q)) (at_head [] [])
in_number_lists q zero (x ∷ xs) is = let count = is.count in absurd (omega arith)
in_number_lists q (suc n) [] is = let count = is.count in absurd (omega arith)
in_number_lists q (suc n) (x ∷ xs) is =
    subst (λ all. Contains all (x ∷ xs)) (sym (more_listed q n))
    (heads_in q x (number_lists q n) xs (is.below 0 (omega arith)) (in_number_lists q n xs (record { count = count; below = λ k below. is.below (suc k) (omega arith) })))
  where
    count : length xs ≡ n
    count = let all = is.count in omega arith
