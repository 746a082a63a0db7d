-- The sweep over pairs: what has been reached before the pair (a, k).
use Rattle.classes.proofs.Names.{◌≡◌, ℕ, ◌+◌, ◌<◌, ◌≤◌, Bool, true, false, cond, List, [], ◌∷◌, ◌++◌, ◌⊎◌, inl, inr, eq-or-lt_of_le, replicate, length, get_or, set, nat_eq, Option, Some, None, refl, sym, ap, ◌∙◌, arith, add-one, eq-eqb, get_or-set_same, get_or-set_other, is_some, get_or-replicate, get_or_push, get_or_append_left, option_or, first, first-zero, first-suc, first_none, first_found, Table, IsGroup, conjugate, least_transporter, representative_of, reach, reach_below, reach_of, Reach}
use Rattle.std.specs.Option.{IsSome, option_map, option_or as or}
use Rattle.std.proofs.lemmas.Bool.{cases_eq, ne_eqb}
use Rattle.classes.proofs.Conjugacy.{representative_least, transporter_found}

-- how g is reached before the pair (a, k)
unfoldable pub reached_before : Table → ℕ → ℕ → ℕ → Option Reach
reached_before t a k g = option_or (reach_below t a g) (option_map (reach a) (first k (λ j. cond (nat_eq (conjugate t j a) g) (Some j) None)))

or_none : {A : Type 0} (o : Option A) → option_or o None ≡ o
or_none (Some x) = refl
or_none None = refl

or_assoc : {A : Type 0} (a b c : Option A) → option_or (option_or a b) c ≡ option_or a (option_or b c)
or_assoc (Some x) b c = refl
or_assoc None b c = refl

map_or : {A B : Type 0} (f : A → B) (a b : Option A) → option_map f (option_or a b) ≡ option_or (option_map f a) (option_map f b)
map_or f (Some x) b = refl
map_or f None b = refl

map_if : {A B : Type 0} (f : A → B) (b : Bool) (x : A) → option_map f (cond b (Some x) None) ≡ cond b (Some (f x)) None
map_if f true x = refl
map_if f false x = refl

-- a row begins with what the rows before it reached
pub row_begins : (t : Table) (a g : ℕ) → reached_before t a 0 g ≡ reach_below t a g
unfolding reached_before
row_begins t a g = rw first-zero (or_none (reach_below t a g))

-- one more pair
row_goes_on : (t : Table) (a k g : ℕ) → reached_before t a (k + 1) g ≡ option_or (reached_before t a k g) (cond (nat_eq (conjugate t k a) g) (Some (reach a k)) None)
unfolding reached_before
row_goes_on t a k g = rw add-one (simp (first-suc, map_or {A = ℕ} (reach a), map_if {A = ℕ} (reach a), or_assoc))

-- a whole row
pub row_ends : (t : Table) (a g : ℕ) → reached_before t a t.order g ≡ reach_below t (a + 1) g
unfolding reached_before
row_ends t a g = rw (add-one, first-suc a (λ a. option_map (reach a) (least_transporter t a g))) refl

same_or : {A : Type 0} (o later : Option A) → or o later ≡ option_or o later
same_or (Some x) later = refl
same_or None later = refl

-- what is written at c unless something stands there
written : {A : Type 0} (xs : List (Option A)) (c g : ℕ) (x : A) → c < length xs
    → get_or (set xs c (or (get_or xs c None) (Some x))) g None ≡ option_or (get_or xs g None) (cond (nat_eq c g) (Some x) None)
written {A} xs c g x below =
    elim (cases_eq c g) [
      | inl same ↦ rw (← same, get_or-set_same xs c (or (get_or xs c None) (Some x)) None below, eq-eqb c c refl) (same_or (get_or xs c None) (Some x))
      | inr other ↦
          rw (get_or-set_other xs c g (or (get_or xs c None) (Some x)) None (λ e. other (sym e)), ne_eqb c g other)
          (sym (or_none (get_or xs g None)))
    ]

-- the pair (a, k): its element is reached now, unless it was before
pub pair_reached : (t : Table) (a k c : ℕ) (xs : List (Option Reach)) (g : ℕ) → c ≡ conjugate t k a → c < length xs → get_or xs g None ≡ reached_before t a k g
    → get_or (set xs c (or (get_or xs c None) (Some (reach a k)))) g None ≡ reached_before t a (k + 1) g
pair_reached t a k c xs g carries below before = written xs c g (reach a k) below ∙ rw (before, carries, row_goes_on t a k g) refl

none_of : {A : Type 0} (o : Option A) → (is_some o ≡ true → ⊥) → o ≡ None
none_of (Some x) h = absurd (h refl)
none_of None h = refl

-- the whole sweep reaches each element from its representative, by the least transporter
pub reach_found : (t : Table) (g : ℕ) → IsGroup t → g < t.order → reach_below t t.order g ≡ Some (reach_of t g)
reach_found t g group below =
    let at : ℕ → Option Reach = λ a. option_map (reach a) (least_transporter t a g) in
    let least = representative_least t group g below in
    first_found t.order (representative_of t g) at (reach_of t g) least.below
    (first_none (representative_of t g) at
    (λ a less. ap (option_map (reach a)) (none_of (least_transporter t a g) (λ conjugates. too_low a (representative_of t g) less (least.least a (omega arith) conjugates)))))
    (ap (option_map (reach (representative_of t g))) (transporter_found t group g below))
  where
    too_low : (a b : ℕ) → a < b → b ≤ a → ⊥
    too_low a b p q = omega arith

-- before the first row nothing is reached
pub nothing_reached : (t : Table) (n g : ℕ) → g < n → get_or (replicate n None) g None ≡ reach_below t 0 g
nothing_reached t n g below =
    get_or-replicate n g None None below ∙ sym (first-zero (λ a. option_map (reach a) (least_transporter t a g)))

-- one more element
pub one_more_reach : (t : Table) (reaches : List Reach) (x : Reach) (i : ℕ) → length reaches ≡ i
    → ((g : ℕ) (d : Reach) → g < i → get_or reaches g d ≡ reach_of t g) → x ≡ reach_of t i
    → (g : ℕ) (d : Reach) → g < i + 1 → get_or (reaches ++ x ∷ []) g d ≡ reach_of t g
one_more_reach t reaches x i count each is g d below = by (place g i (omega arith))
  where
    place : (g i : ℕ) → g ≤ i → (g ≡ i) ⊎ (g < i)
    place g i most = eq-or-lt_of_le most

    by : (g ≡ i) ⊎ (g < i) → get_or (reaches ++ x ∷ []) g d ≡ reach_of t g
    by (inl last) = get_or_push reaches x d g (count ∙ sym last) ∙ is ∙ ap (reach_of t) (sym last)
    by (inr before) = get_or_append_left reaches (x ∷ []) d g (omega arith) ∙ each g d before

-- what is read of the list of reaches, at a place within it
pub reach_read : (t : Table) (found xs : List (Option Reach)) (i : ℕ) → IsGroup t → length found ≡ t.order
    → ((g : ℕ) → g < t.order → get_or found g None ≡ reach_below t t.order g) → xs ≡ found → i < length xs → get_or xs i None ≡ Some (reach_of t i)
reach_read t found xs i group count each same inside =
    let below : i < t.order = omega (arith, ap length same) in
    ap (λ ys. get_or ys i None) same ∙ each i below ∙ reach_found t i group below

pub reach_there : (t : Table) (found xs : List (Option Reach)) (i : ℕ) → IsGroup t → length found ≡ t.order
    → ((g : ℕ) → g < t.order → get_or found g None ≡ reach_below t t.order g) → xs ≡ found → i < length xs → IsSome (get_or xs i None)
reach_there t found xs i group count each same inside = rw (reach_read t found xs i group count each same inside) refl
