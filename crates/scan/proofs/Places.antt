-- What `first` and `all_below` say of each place.
use Rattle.std.proofs.Common.{◌≡◌, ℕ, zero, suc, ◌+◌, ◌<◌, Bool, true, false, ◌&&◌, Option, Some, None, refl, sym, ap, ◌∙◌, arith, ◌⊎◌, inl, inr, add-one}
use Rattle.scan.specs.First.{option_or, first, all_below}

pub first-zero : {A : Type 0} (at : ℕ → Option A) → first 0 at ≡ None
unfolding first
first-zero at = refl

pub first-suc : {A : Type 0} (n : ℕ) (at : ℕ → Option A) → first (suc n) at ≡ option_or (first n at) (at n)
unfolding first
first-suc n at = refl

pub all_below-zero : (test : ℕ → Bool) → all_below 0 test ≡ true
unfolding all_below
all_below-zero test = refl

pub all_below-suc : (n : ℕ) (test : ℕ → Bool) → all_below (suc n) test ≡ (all_below n test && test n)
unfolding all_below
all_below-suc n test = refl

-- nothing is found before i, nor at i
pub first_none-step : {A : Type 0} (i : ℕ) (at : ℕ → Option A) → first i at ≡ None → at i ≡ None → first (i + 1) at ≡ None
first_none-step i at before here = rw (add-one, first-suc i at, before) here

below_or_last : (i n : ℕ) → i < suc n → (i < n) ⊎ (i ≡ n)
below_or_last i n below = grind arith

-- what is found at i, where nothing is found before it
pub first_found : {A : Type 0} (n i : ℕ) (at : ℕ → Option A) (x : A) → i < n → first i at ≡ None → at i ≡ Some x → first n at ≡ Some x
first_found zero i at x below before here = absurd (omega arith)
first_found {A} (suc n) i at x below before here =
    elim (below_or_last i n below) [
      | inl less ↦ rw (first-suc n at, first_found n i at x less before here) refl
      | inr last ↦
          let before_n : first n at ≡ None = rw last at before in
          let here_n : at n ≡ Some x = rw last at here in
          rw (first-suc n at, before_n) here_n
    ]

pub or_none : {A : Type 0} (front last : Option A) → option_or front last ≡ None → (front ≡ None) × (last ≡ None)
or_none None last e = (refl, e)
or_none (Some x) last e = absurd cc

-- where nothing is found, nothing stands at any place
pub first_none-at : {A : Type 0} (n i : ℕ) (at : ℕ → Option A) → first n at ≡ None → i < n → at i ≡ None
first_none-at zero i at nothing below = absurd (omega arith)
first_none-at (suc n) i at nothing below =
    let both = or_none (first n at) (at n) (sym (first-suc n at) ∙ nothing) in
    elim (below_or_last i n below) [
      | inl less ↦ first_none-at n i at both.0 less
      | inr last ↦ ap at last ∙ both.1
    ]

-- where nothing stands at any place, nothing is found
pub first_none : {A : Type 0} (n : ℕ) (at : ℕ → Option A) → ((i : ℕ) → i < n → at i ≡ None) → first n at ≡ None
first_none zero at nothing = first-zero at
first_none (suc n) at nothing =
    rw (first-suc n at, first_none n at (λ i below. nothing i (omega arith))) (nothing n (omega arith))

-- two searches that agree at each place find the same
pub first-ext : {A : Type 0} (n : ℕ) (at other : ℕ → Option A) → ((i : ℕ) → i < n → at i ≡ other i) → first n at ≡ first n other
first-ext zero at other same = first-zero at ∙ sym (first-zero other)
first-ext (suc n) at other same =
    rw (first-suc n at, first-suc n other, first-ext n at other (λ i below. same i (omega arith)), same n (omega arith)) refl

-- what is found stands at a least place
pub record IsFirst {A : Type 0} (n : ℕ) (at : ℕ → Option A) (x : A) : Type 0 where
  pub place : ℕ
  pub below : place < n
  pub here : at place ≡ Some x
  pub before : (i : ℕ) → i < place → at i ≡ None

first_is_step : {A : Type 0} (n : ℕ) (at : ℕ → Option A) (x : A) (front last : Option A) → first n at ≡ front → at n ≡ last → option_or front last ≡ Some x
    → (first n at ≡ Some x) ⊎ ((first n at ≡ None) × (at n ≡ Some x))
first_is_step n at x (Some y) last f l e = inl (f ∙ e)
first_is_step n at x None last f l e = inr (f, l ∙ e)

pub first_some : {A : Type 0} (n : ℕ) (at : ℕ → Option A) (x : A) → first n at ≡ Some x → IsFirst n at x
first_some zero at x found = absurd (let e : None ≡ Some x = sym (first-zero at) ∙ found in cc)
first_some (suc n) at x found =
    elim (first_is_step n at x (first n at) (at n) refl refl (sym (first-suc n at) ∙ found)) [
      | inl earlier ↦
          let f = first_some n at x earlier in
          record { place = f.place; below = omega (arith, f.below); here = f.here; before = f.before }
      | inr last ↦ record { place = n; below = omega arith; here = last.1; before = λ i below. first_none-at n i at last.0 below }
    ]

-- a test that holds before i, and at i
pub all_below-step : (i : ℕ) (test : ℕ → Bool) → all_below i test ≡ true → test i ≡ true → all_below (i + 1) test ≡ true
all_below-step i test before here = rw (add-one, all_below-suc i test, before) here

pub and_true : (a b : Bool) → (a && b) ≡ true → (a ≡ true) × (b ≡ true)
and_true true b e = (refl, e)
and_true false b e = absurd cc

pub and_false : (a b : Bool) → b ≡ false → (a && b) ≡ false
and_false true b e = e
and_false false b e = refl

-- a test that holds at every place holds at each
pub all_below-at : (n i : ℕ) (test : ℕ → Bool) → all_below n test ≡ true → i < n → test i ≡ true
all_below-at zero i test all below = absurd (omega arith)
all_below-at (suc n) i test all below =
    let both = and_true (all_below n test) (test n) (sym (all_below-suc n test) ∙ all) in
    elim (below_or_last i n below) [
      | inl less ↦ all_below-at n i test both.0 less
      | inr last ↦ ap test last ∙ both.1
    ]

-- a test that holds at each place holds at every one
pub all_below-all : (n : ℕ) (test : ℕ → Bool) → ((i : ℕ) → i < n → test i ≡ true) → all_below n test ≡ true
all_below-all zero test each = all_below-zero test
all_below-all (suc n) test each =
    rw (all_below-suc n test, all_below-all n test (λ i below. each i (omega arith))) (each n (omega arith))

-- a test that fails at one place
pub all_below-fails : (n i : ℕ) (test : ℕ → Bool) → i < n → test i ≡ false → all_below n test ≡ false
all_below-fails zero i test below fails = absurd (omega arith)
all_below-fails (suc n) i test below fails =
    elim (below_or_last i n below) [
      | inl less ↦ rw (all_below-suc n test, all_below-fails n i test less fails) refl
      | inr last ↦ rw (all_below-suc n test) (and_false (all_below n test) (test n) (sym (ap test last) ∙ fails))
    ]
