-- The numbers below a bound that pass a test, and the values of a function there.
use Rattle.std.proofs.Common.{◌≡◌, ◌≢◌, ℕ, zero, suc, ◌+◌, ◌<◌, ◌≤◌, ◌⊎◌, Bool, true, false, ◌↔◌, cond, List, [], get_or, ◌∷◌, ◌++◌, length, nat_eq, eqb-true, refl, sym, ap, ◌∙◌, arith, inl, inr, add-one, eq-or-lt_of_le, length-append}
use Rattle.std.specs.List.{All, Contains}
use Rattle.std.proofs.lemmas.List.Elements.{All-nil, All-push, All-weaker, All-get_or, All-contains, Contains-push, Contains-append_left, Contains-append_right}
use Rattle.std.proofs.lemmas.List.{get_or_push, get_or_append_left}
use Rattle.std.proofs.lemmas.List.FromFn.{map-range_with_len_more, length-map-range_with_len, get_or-map-range_with_len}
use mathlib.Core.Path.{ap₂}
use Rattle.group_table.specs.Numbers.{passing_below, tabulated}

pub passing_below-zero : (test : ℕ → Bool) → passing_below 0 test ≡ []
unfolding passing_below
passing_below-zero test = refl

pub passing_below-suc : (n : ℕ) (test : ℕ → Bool) → passing_below (suc n) test ≡ cond (test n) (passing_below n test ++ n ∷ []) (passing_below n test)
unfolding passing_below
passing_below-suc n test = refl

-- one more number that passes
pub passing_below-passes : (n : ℕ) (test : ℕ → Bool) → test n ≡ true → passing_below (n + 1) test ≡ passing_below n test ++ n ∷ []
passing_below-passes n test passes = rw (add-one, passing_below-suc n test, passes) refl

-- one more number that does not
pub passing_below-fails : (n : ℕ) (test : ℕ → Bool) → test n ≡ false → passing_below (n + 1) test ≡ passing_below n test
passing_below-fails n test fails = rw (add-one, passing_below-suc n test, fails) refl

-- two tests that agree at each number keep the same numbers
pub passing_below-ext : (n : ℕ) (test other : ℕ → Bool) → ((i : ℕ) → i < n → test i ≡ other i) → passing_below n test ≡ passing_below n other
passing_below-ext zero test other same = passing_below-zero test ∙ sym (passing_below-zero other)
passing_below-ext (suc n) test other same =
    rw (passing_below-suc n test, passing_below-suc n other, passing_below-ext n test other (λ i p. same i (omega arith)), same n (omega arith)) refl

-- no more numbers than there are
pub length-passing_below : (n : ℕ) (test : ℕ → Bool) → length (passing_below n test) ≤ n
length-passing_below zero test = rw (passing_below-zero test) (omega arith)
length-passing_below (suc n) test =
    rw (passing_below-suc n test) (by (test n) (passing_below n test) (length-passing_below n test))
  where
    by : (b : Bool) (front : List ℕ) → length front ≤ n → length (cond b (front ++ n ∷ []) front) ≤ suc n
    by true front most = simp length-append (omega arith)
    by false front most = omega arith

-- a number of the list is below the bound, and passes
pub record IsPassing (n : ℕ) (test : ℕ → Bool) (i : ℕ) : Type 0 where
  pub below : i < n
  pub passes : test i ≡ true

passing-push : (n : ℕ) (test : ℕ → Bool) (b : Bool) (front : List ℕ) → test n ≡ b → All (IsPassing n test) front
    → All (IsPassing (suc n) test) (cond b (front ++ n ∷ []) front)
passing-push n test b front e all =
    by b e (All-weaker (IsPassing n test) (IsPassing (suc n) test) (λ i h. record { below = omega (arith, h.below); passes = h.passes }) front all)
  where
    by : (b : Bool) → test n ≡ b → All (IsPassing (suc n) test) front → All (IsPassing (suc n) test) (cond b (front ++ n ∷ []) front)
    by true e all = All-push (IsPassing (suc n) test) front n all (record { below = omega arith; passes = e })
    by false e all = all

pub passing_below-all : (n : ℕ) (test : ℕ → Bool) → All (IsPassing n test) (passing_below n test)
passing_below-all zero test = rw (passing_below-zero test) (All-nil (IsPassing 0 test))
passing_below-all (suc n) test =
    rw (passing_below-suc n test) (passing-push n test (test n) (passing_below n test) refl (passing_below-all n test))

contains-push : (n i : ℕ) (test : ℕ → Bool) (b : Bool) (front : List ℕ) → test n ≡ b → test i ≡ true → (i ≡ n) ⊎ Contains front i
    → Contains (cond b (front ++ n ∷ []) front) i
contains-push n i test true front e passes (inl last) = rw last (Contains-push front n)
contains-push n i test true front e passes (inr before) = Contains-append_left front (n ∷ []) i before
contains-push n i test false front e passes (inl last) = absurd (let wrong : test n ≡ true = ap test (sym last) ∙ passes in cc)
contains-push n i test false front e passes (inr before) = before

-- a number below the bound that passes is in the list
pub passing_below-contains : (n i : ℕ) (test : ℕ → Bool) → i < n → test i ≡ true → Contains (passing_below n test) i
passing_below-contains zero i test below passes = absurd (omega arith)
passing_below-contains (suc n) i test below passes =
    let place : (i ≡ n) ⊎ (i < n) = eq-or-lt_of_le (omega arith) in
    rw (passing_below-suc n test)
    (contains-push n i test (test n) (passing_below n test) refl passes
    (elim place [ inl last ↦ inl last | inr before ↦ inr (passing_below-contains n i test before passes) ]))

-- the numbers ascend
ascending-push : (n : ℕ) (b : Bool) (front : List ℕ) → ((i j : ℕ) → i < j → j < length front → get_or front i 0 < get_or front j 0)
    → ((i : ℕ) → i < length front → get_or front i 0 < n)
    → (i j : ℕ) → i < j → j < length (cond b (front ++ n ∷ []) front) → get_or (cond b (front ++ n ∷ []) front) i 0 < get_or (cond b (front ++ n ∷ []) front) j 0
ascending-push n false front ascends below i j less last = ascends i j less last
ascending-push n true front ascends below i j less last =
    let count : length (front ++ n ∷ []) ≡ length front + 1 = length-append front (n ∷ []) in
    let i_front : i < length front = omega arith in
    by i_front (get_or_append_left front (n ∷ []) 0 i i_front) (place j (length front) (omega arith))
  where
    place : (j m : ℕ) → j ≤ m → (j ≡ m) ⊎ (j < m)
    place j m most = eq-or-lt_of_le most

    by : i < length front → get_or (front ++ n ∷ []) i 0 ≡ get_or front i 0 → (j ≡ length front) ⊎ (j < length front) → get_or (front ++ n ∷ []) i 0 < get_or (front ++ n ∷ []) j 0
    by i_front first (inl end) = rw (first, get_or_push front n 0 j (sym end)) (below i i_front)
    by i_front first (inr before) = rw (first, get_or_append_left front (n ∷ []) 0 j before) (ascends i j less before)

pub passing_below-ascending : (n : ℕ) (test : ℕ → Bool) (i j : ℕ) → i < j → j < length (passing_below n test)
    → get_or (passing_below n test) i 0 < get_or (passing_below n test) j 0
passing_below-ascending zero test i j less last =
    absurd (let none : length (passing_below 0 test) ≡ 0 = ap length (passing_below-zero test) in omega arith)
passing_below-ascending (suc n) test i j less last =
    rw (passing_below-suc n test)
    (ascending-push n (test n) (passing_below n test) (λ i j less last. passing_below-ascending n test i j less last)
    (λ i p. (All-get_or (IsPassing n test) (passing_below n test) i 0 p (passing_below-all n test)).below)
    i j less (rw (passing_below-suc n test) at last))

-- a number is in the list exactly where it is below the bound and passes
pub passing_below-exactly : (n i : ℕ) (test : ℕ → Bool) → Contains (passing_below n test) i ↔ ((i < n) × (test i ≡ true))
passing_below-exactly n i test = (
  λ listed. let here = All-contains (IsPassing n test) (passing_below n test) i (passing_below-all n test) listed in (here.below, here.passes),
  λ passes. passing_below-contains n i test passes.0 passes.1,
)

-- in a list that begins with e, and goes on with numbers that pass and are not e, no two are the same
pub begun_differ : (n e : ℕ) (test : ℕ → Bool) → ((i : ℕ) → test i ≡ true → i ≢ e) → (c d : ℕ) → c < d → d < length (e ∷ passing_below n test)
    → get_or (e ∷ passing_below n test) c 0 ≢ get_or (e ∷ passing_below n test) d 0
begun_differ n e test other zero (suc d) less last same =
    let there = All-get_or (IsPassing n test) (passing_below n test) d 0 (omega arith) (passing_below-all n test) in
    other _ there.passes (sym same)
begun_differ n e test other (suc c) (suc d) less last same =
    omega (arith, same, passing_below-ascending n test c d (omega arith) (omega arith))
begun_differ n e test other c zero less last same = omega arith

-- it has e, and the numbers that pass
pub begun_contains : (n e i : ℕ) (test : ℕ → Bool) → i < n → (nat_eq i e ≡ false → test i ≡ true) → Contains (e ∷ passing_below n test) i
begun_contains n e i test below passes = by (nat_eq i e) refl
  where
    by : (b : Bool) → nat_eq i e ≡ b → Contains (e ∷ passing_below n test) i
    by true same = rw (eqb-true _ _ same) (0, omega arith, refl)
    by false other = Contains-append_right (e ∷ []) (passing_below n test) i (passing_below-contains n i test below (passes other))

-- ---- the values of a function

pub tabulated-suc : {A : Type 0} (n : ℕ) (at : ℕ → A) → tabulated (suc n) at ≡ tabulated n at ++ at n ∷ []
tabulated-suc n at = ap (λ k. tabulated k at) (sym (add-one n)) ∙ map-range_with_len_more at 0 n n (omega arith)

-- one more value
pub tabulated-more : {A : Type 0} (n : ℕ) (at : ℕ → A) {v : A} {front all : List A} → front ≡ tabulated n at → all ≡ front ++ v ∷ [] → v ≡ at n
    → all ≡ tabulated (n + 1) at
tabulated-more n at before pushed here = rw (pushed, before, here) (sym (map-range_with_len_more at 0 n n (omega arith)))

pub length-tabulated : {A : Type 0} (n : ℕ) (at : ℕ → A) → length (tabulated n at) ≡ n
length-tabulated n at = length-map-range_with_len at 0 n

pub tabulated-at : {A : Type 0} (n i : ℕ) (at : ℕ → A) (d : A) → i < n → get_or (tabulated n at) i d ≡ at i
tabulated-at n i at d below = get_or-map-range_with_len at 0 n i i d below (omega arith)

pub tabulated-same : {A : Type 0} (n : ℕ) (at other : ℕ → A) → ((i : ℕ) → i < n → at i ≡ other i) → tabulated n at ≡ tabulated n other
tabulated-same zero at other same = refl
tabulated-same (suc n) at other same =
    tabulated-suc n at ∙ ap₂ (λ xs x. xs ++ x ∷ []) (tabulated-same n at other (λ i h. same i (omega arith))) (same n (omega arith))
    ∙ sym (tabulated-suc n other)
