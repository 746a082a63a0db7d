-- Tests that let something through, and searches that find something.
use Rattle.std.proofs.Common.{◌≡◌, ℕ, ◌<◌, ◌≤◌, Bool, true, false, ◌&&◌, cond, Option, Some, None, refl, sym, ◌∙◌, arith}
use Rattle.std.specs.Prelude.{is_some, unwrap_or}
use Rattle.scan.specs.First.{first}
use Rattle.scan.proofs.Places.{IsFirst, first_some, first_none-at}

-- two tests that follow from one another
pub same_test : (a b : Bool) → (a ≡ true → b ≡ true) → (b ≡ true → a ≡ true) → a ≡ b
same_test true b to from = sym (to refl)
same_test false true to from = from refl
same_test false false to from = refl

pub both : (a b : Bool) → a ≡ true → b ≡ true → (a && b) ≡ true
both true b e h = h
both false b e h = absurd cc

-- a test that finds nothing wrong
pub passes : {A : Type 0} (b : Bool) (x : A) → cond b None (Some x) ≡ None → b ≡ true
passes true x e = refl
passes false x e = absurd cc

pub no_fault : {A : Type 0} (b : Bool) (x : A) → b ≡ true → cond b None (Some x) ≡ None
no_fault true x e = refl
no_fault false x e = absurd cc

-- a value that a test lets through
pub let_in : {A : Type 0} (b : Bool) (x : A) → b ≡ true → cond b (Some x) None ≡ Some x
let_in true x e = refl
let_in false x e = absurd cc

pub let_through : {A : Type 0} (b : Bool) (x y : A) → cond b (Some x) None ≡ Some y → (b ≡ true) × (x ≡ y)
let_through true x y e = (refl, cc)
let_through false x y e = absurd cc

pub kept_out : {A : Type 0} (b : Bool) (x : A) → cond b (Some x) None ≡ None → b ≡ false
kept_out true x e = absurd cc
kept_out false x e = refl

-- a test that is asked for under another alone
pub asked : (b c : Bool) → cond b c true ≡ true → b ≡ true → c ≡ true
asked true c e h = e
asked false c e h = absurd cc

pub not_asked : (b c : Bool) → cond b c true ≡ false → (b ≡ true) × (c ≡ false)
not_asked true c e = (refl, e)
not_asked false c e = absurd cc

pub where_asked : (b c : Bool) → (b ≡ true → c ≡ true) → cond b c true ≡ true
where_asked true c h = h refl
where_asked false c h = refl

pub is_some_of : {A : Type 0} (o : Option A) (x : A) → o ≡ Some x → is_some o ≡ true
is_some_of o x e = rw e refl

pub some_of : {A : Type 0} (o : Option A) → is_some o ≡ true → (x : A) × (o ≡ Some x)
some_of (Some x) e = (x, refl)
some_of None e = absurd cc

-- something stands at a place: then something is found
pub first_finds : {A : Type 0} (n i : ℕ) (at : ℕ → Option A) (x : A) → i < n → at i ≡ Some x → (y : A) × (first n at ≡ Some y)
first_finds n i at x below here = by (first n at) refl
  where
    by : (o : Option _) → first n at ≡ o → (y : _) × (first n at ≡ Some y)
    by (Some y) e = (y, e)
    by None e = absurd (let wrong : None ≡ Some x = sym (first_none-at n i at e below) ∙ here in cc)

-- the least number below n that passes
pub record IsLeastPassing (n : ℕ) (test : ℕ → Bool) (i : ℕ) : Type 0 where
  pub below : i < n
  pub passes : test i ≡ true
  pub least : (j : ℕ) → j < n → test j ≡ true → i ≤ j

-- a place, if it passes
abbrev pub place_if : (ℕ → Bool) → ℕ → Option ℕ
place_if test i = cond (test i) (Some i) None

pub least_passing : (n : ℕ) (test : ℕ → Bool) (i : ℕ) → first n (place_if test) ≡ Some i → IsLeastPassing n test i
least_passing n test i found =
    let f : IsFirst n (place_if test) i = first_some n (place_if test) i found in
    let here = let_through (test f.place) f.place i f.here in
    let same : f.place ≡ i = here.1 in
    let below : f.place < n = f.below in
    record {
      below = omega arith;
      passes = rw (← same) here.0;
      least = λ j p passes. at_most f.place i j same (λ less. let out = kept_out (test j) j (f.before j less) in cc);
    }
  where
    at_most : (place i j : ℕ) → place ≡ i → (j < place → ⊥) → i ≤ j
    at_most place i j e none = omega arith

-- where some number passes, the least one is found
pub least_passing_found : (n : ℕ) (test : ℕ → Bool) (j : ℕ) → j < n → test j ≡ true
    → first n (place_if test) ≡ Some (unwrap_or (first n (place_if test)) 0)
least_passing_found n test j below passes =
    let (i, found) = first_finds n j (place_if test) j below (rw passes refl) in
    rw found refl
