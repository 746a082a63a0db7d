-- Tests that compute over the table of conductors, and what they mean.
use Rattle.std.specs.Cmp.Rules.{signed_items}
use Rattle.std.specs.Ordering.{int_eq}
use lib.Pointwise.{pointwise}
use Rattle.scan.proofs.Places.{all_below-at}
use Rattle.cyclotomic.proofs.Names.{◌≡◌, ℕ, ◌<◌, List, [], ◌∷◌, Bool, true, false, refl, sym, ap, ◌∙◌, inl, inr, cases_eq, ne_eqb, ℤ, ◌==◌, ◌&&◌, ◌||◌, list_all, list_any, all_below, conductors, is_conductor}

-- ---- conjunctions
pub and_left : (a b : Bool) → (a && b) ≡ true → a ≡ true
and_left true b e = refl
and_left false b e = cc

pub and_right : (a b : Bool) → (a && b) ≡ true → b ≡ true
and_right true b e = e
and_right false b e = cc

-- ---- equal lists of whole numbers
abbrev pub same_list : List ℤ → List ℤ → Bool
same_list = pointwise int_eq

pub same_list_means : (p q : List ℤ) → same_list p q ≡ true → p ≡ q
same_list_means p q = (signed_items p q).0

-- ---- each number below a bound
pub all_below_means : (n : ℕ) (test : ℕ → Bool) → all_below n test ≡ true → (i : ℕ) → i < n → test i ≡ true
all_below_means n test e i h = all_below-at n i test e h

-- ---- each entry of the table
pub all_entries : (test : ℕ → Bool) (k : ℕ) (entries : List (ℕ × ℕ)) → list_all (λ (entry : ℕ × ℕ). test entry.0) entries ≡ true → list_any (λ (entry : ℕ × ℕ). entry.0 == k) entries ≡ true → test k ≡ true
all_entries test k [] all found = cc
all_entries test k (entry ∷ rest) all found = elim (cases_eq entry.0 k) [
  | inl here ↦ ap test (sym here) ∙ and_left (test entry.0) (list_all (λ (e : ℕ × ℕ). test e.0) rest) all
  | inr apart ↦ all_entries test k rest (and_right (test entry.0) (list_all (λ (e : ℕ × ℕ). test e.0) rest) all)
      (sym (ap (λ b. b || list_any (λ (e : ℕ × ℕ). e.0 == k) rest) (ne_eqb entry.0 k apart)) ∙ found)
]

pub at_each_conductor : (test : ℕ → Bool) → list_all (λ (entry : ℕ × ℕ). test entry.0) conductors ≡ true → (k : ℕ) → is_conductor k ≡ true → test k ≡ true
unfolding is_conductor
at_each_conductor test all k found = all_entries test k conductors all found
