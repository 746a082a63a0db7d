-- Steps of a loop that adds up a listed sum.
use Rattle.qd_ring.proofs.Names.{◌≡◌, ◌+◌, ◌<◌, ℕ, Bool, true, false, List, [], ◌∷◌, ◌++◌, map, take, drop, length, get_or, refl, sym, ◌∙◌, ap, false≢true, take_more, map-append, take-append-drop, IfSome, is_some, ◌&&◌, Option, Some, None, subst, ◌≤◌, suc, ◌||◌, not, arith, zero-add, add-one, range_with_len, take-map-range_with_len, all_below, all_below-fails, all_below-at, all_below-all, ap₂, sum_list, sum_below, sum_list_push, sum_list_range, sum_ext, sum_suc, cyclotomic_ring, value_fits, sizes_overflow, sizes_overflow-one, cyclotomic_fit, Formed, listed, FitRules, sum_overflows, IsTerm}
use Rattle.std.proofs.Math.Bool.{or-true}
use Rattle.std.proofs.lemmas.Bool.{not-true, true_from_ne_false}
use Rattle.algebra.specs.Structures.{CommRing}

module _ {A E : Type 0} (R : CommRing A) (of : E → A) (xs : List E) where
  -- the sum s of the first i terms, with one more term
  pub sum_taken : (i : ℕ) (s : A) (x : E) → i < length xs → x ≡ get_or xs i x → s ≡ sum_list R (map of (take i xs)) → R.add s (of x) ≡ sum_list R (map of (take (i + 1) xs))
  sum_taken i s x h e is =
      ap (λ a. R.add a (of x)) is ∙ sym (sum_list_push R (map of (take i xs)) (of x)) ∙ ap (sum_list R) (sym (map-append of (take i xs) (x ∷ [])))
      ∙ ap (λ y. sum_list R (map of (take i xs ++ y ∷ []))) e ∙ ap (λ ys. sum_list R (map of ys)) (sym (take_more xs i x h))

  -- a front of a listed sum that doesn't overflow has a value that fits
  pub front_fits : (rules : FitRules R) (i : ℕ) → rules.overflows (map of xs) ≡ false → rules.fits (sum_list R (map of (take i xs))) ≡ true
  front_fits rules i h =
      rules.sum_fits (map of (take i xs)) (rules.front (map of (take i xs)) (map of (drop i xs))
      (ap rules.overflows (sym (map-append of (take i xs) (drop i xs)) ∙ ap (map of) (take-append-drop i xs)) ∙ h))

  -- where a partial sum doesn't fit, the listed sum overflows
  pub overflow_shown : (rules : FitRules R) (i : ℕ) (s : A) (x : E) → i < length xs → x ≡ get_or xs i x → s ≡ sum_list R (map of (take i xs)) → rules.fits (R.add s (of x)) ≡ false → rules.overflows (map of xs) ≡ true
  overflow_shown rules i s x h e is unfit =
      true_from_ne_false _ (λ o. false≢true (sym unfit ∙ ap rules.fits (sum_taken i s x h e is) ∙ front_fits rules (i + 1) o))

-- terms with numbers below n
module _ {A : Type 0} (R : CommRing A) (rules : FitRules R) (value : ℕ → A) where
  listed_sum : (n : ℕ) → sum_list R (map value (range_with_len 0 n)) ≡ sum_below R n value
  listed_sum n = sum_list_range R 0 n value ∙ sum_ext R n (λ j. value (0 + j)) value (λ j h. ap value (zero-add j))

  -- what doesn't overflow doesn't with fewer terms
  pub front_below : (m n : ℕ) → m ≤ n → rules.overflows (map value (range_with_len 0 n)) ≡ false
      → rules.overflows (map value (range_with_len 0 m)) ≡ false
  front_below m n few o =
      let terms = map value (range_with_len 0 n) in
      rules.front (map value (range_with_len 0 m)) (drop m terms)
      (ap (λ xs. rules.overflows (xs ++ drop m terms)) (sym (take-map-range_with_len value 0 n m few))
      ∙ ap rules.overflows (take-append-drop m terms) ∙ o)

  -- and its sum fits
  pub sum_below_fits : (n : ℕ) → rules.overflows (map value (range_with_len 0 n)) ≡ false → rules.fits (sum_below R n value) ≡ true
  sum_below_fits n o = ap rules.fits (sym (listed_sum n)) ∙ rules.sum_fits (map value (range_with_len 0 n)) o

  module _ (n : ℕ) (steps_fit : ℕ → Bool) where
    -- a listed sum overflows where its terms are too great, whether or not their steps fit
    pub overflow_unless : (rules.overflows (map value (range_with_len 0 n)) ≡ false → ⊥) → sum_overflows R rules n steps_fit value ≡ true
    unfolding sum_overflows
    overflow_unless great = rw (true_from_ne_false _ great) (or-true _)

    -- where it doesn't overflow all steps fit, and its terms aren't too great
    pub listed_parts : sum_overflows R rules n steps_fit value ≡ false
        → (all_below n steps_fit ≡ true) × (rules.overflows (map value (range_with_len 0 n)) ≡ false)
    unfolding sum_overflows
    listed_parts o = parts (all_below n steps_fit) (rules.overflows (map value (range_with_len 0 n))) o
      where
        parts : (a b : Bool) → (not a || b) ≡ false → (a ≡ true) × (b ≡ false)
        parts true b o = (refl, o)
        parts false b o = cc

    module _ (i : ℕ) (inside : i < n) where
      -- a term with a step that doesn't fit
      pub overflow_by_step : steps_fit i ≡ false → sum_overflows R rules n steps_fit value ≡ true
      unfolding sum_overflows
      overflow_by_step unfit = ap (λ b. not b || rules.overflows (map value (range_with_len 0 n))) (all_below-fails n i steps_fit inside unfit)

      -- a partial sum that doesn't fit
      pub overflow_by_size : (s a : A) → s ≡ sum_below R i value → a ≡ value i → rules.fits (R.add s a) ≡ false
          → sum_overflows R rules n steps_fit value ≡ true
      overflow_by_size s a sum term unfit =
          let here = sum_suc R i value ∙ ap₂ R.add (sym sum) (sym term) in
          overflow_unless (λ o. false≢true (sym unfit ∙ ap rules.fits (sym here) ∙ sum_below_fits (suc i) (front_below (suc i) n (omega arith) o)))

-- one more numbered term
pub sum_below_more : {A : Type 0} (R : CommRing A) (value : ℕ → A) (i : ℕ) (s a : A) → s ≡ sum_below R i value → a ≡ value i → R.add s a ≡ sum_below R (i + 1) value
sum_below_more R value i s a sum term = ap₂ R.add sum term ∙ sym (sum_suc R i value) ∙ ap (λ k. sum_below R k value) (sym (add-one i))

-- what an answer that is there stands for
pub term_stands : {E A : Type 0} (of : E → A) (steps_fit : Bool) (value : A) (answer : Option E) (a : E) → IsTerm of steps_fit value answer → answer ≡ Some a → of a ≡ value
term_stands of steps_fit value answer a t e = subst (λ o. IfSome o (λ b. of b ≡ value)) e t.stands

pub term_missing : {E A : Type 0} (of : E → A) (steps_fit : Bool) (value : A) (answer : Option E) → IsTerm of steps_fit value answer → answer ≡ None → steps_fit ≡ false
term_missing of steps_fit value answer t e = sym t.there ∙ ap is_some e

-- ---- listed sums of values of the cyclotomic ring
module _ (k n : ℕ) (term : ℕ → Formed k) (fit : (listed k n term).fits ≡ true) where
  parts : (all_below n (λ i. (term i).fits) ≡ true) × (sizes_overflow (map (λ i. (term i).value) (range_with_len 0 n)) ≡ false)
  parts = listed_parts (cyclotomic_ring k) (cyclotomic_fit k) (λ i. (term i).value) n (λ i. (term i).fits) (not-true _ fit)

  pub listed_formed : (i : ℕ) → i < n → (term i).fits ≡ true
  listed_formed i inside = all_below-at n i (λ j. (term j).fits) parts.0 inside

  pub listed_sizes : sizes_overflow (map (λ i. (term i).value) (range_with_len 0 n)) ≡ false
  listed_sizes = parts.1

  pub listed_front : (m : ℕ) → m ≤ n → (listed k m term).fits ≡ true
  unfolding sum_overflows
  listed_front m few =
      ap₂ (λ a b. not (not a || b))
      (all_below-all m (λ i. (term i).fits) (λ i inside. listed_formed i (omega arith)))
      (front_below (cyclotomic_ring k) (cyclotomic_fit k) (λ i. (term i).value) m n few listed_sizes)

  pub listed_value_fits : value_fits (listed k n term).value ≡ true
  listed_value_fits = sum_below_fits (cyclotomic_ring k) (cyclotomic_fit k) (λ i. (term i).value) n listed_sizes

pub listed_one : (k : ℕ) (term : ℕ → Formed k) → (listed k 1 term).fits ≡ ((term 0).fits && value_fits (term 0).value)
unfolding sum_overflows all_below
listed_one k term =
    ap (λ b. not (not (term 0).fits || b)) (sizes_overflow-one (term 0).value) ∙ both (term 0).fits (value_fits (term 0).value)
  where
    both : (a b : Bool) → not (not a || not b) ≡ (a && b)
    both true true = refl
    both true false = refl
    both false b = refl
