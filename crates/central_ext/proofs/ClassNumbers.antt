-- First pairs of classes, and class numbers by first appearance.
use Rattle.central_ext.proofs.Names.{Bool, IsLeastPassing, IsTwist, List, TwistedSubgroup, [], ap, are_conjugate, arith, below_more, cases_order, class_number, cond, eq-eqb, eq-or-lt_of_le, false, first_of_class, get_or, get_or_append_left, get_or_push, inl, inr, is_first_of_class, least_passing, least_passing_found, length, length-append, ne_eqb, pair_at, pair_count, passing_below, passing_below-fails, passing_below-passes, passing_below-suc, passing_below-zero, refl, suc, sym, true, zero, ℕ, ◌++◌, ◌+◌, ◌<◌, ◌↔◌, ◌∙◌, ◌∷◌, ◌≡◌, ◌≤◌}
use Rattle.central_ext.proofs.PairLaws.{pair_below, conjugate_itself, conjugate_back, conjugate_on}

count_step : (b : ℕ) (test : ℕ → Bool) → length (passing_below b test) ≤ length (passing_below (suc b) test)
count_step b test = rw (passing_below-suc b test) (by (test b))
  where
    by : (c : Bool) → length (passing_below b test) ≤ length (cond c (passing_below b test ++ b ∷ []) (passing_below b test))
    by true = omega (arith, length-append (passing_below b test) (b ∷ []))
    by false = omega arith

-- more pass below a greater bound, where the lower bound passes
count_grows : (a b : ℕ) (test : ℕ → Bool) → a < b → test a ≡ true → length (passing_below a test) < length (passing_below b test)
count_grows a zero test less passes = absurd (omega arith)
count_grows a (suc b) test less passes =
    let within : a ≤ b = omega arith in elim (eq-or-lt_of_le within) [
      | inl equal ↦ rw (equal, passing_below-suc b test, ap test (sym equal) ∙ passes, length-append (passing_below b test) (b ∷ [])) (omega arith)
      | inr before ↦ let front = count_grows a b test before passes in let step = count_step b test in omega (arith, front, step)
    ]

-- the test by which the first pair of the class of the pair t is found
abbrev pub conjugate_to : TwistedSubgroup → ℕ → ℕ → Bool
conjugate_to s t u = are_conjugate s (pair_at s u) (pair_at s t)

module _ (s : TwistedSubgroup) (twist : IsTwist s) where
  pub first_is : (t : ℕ) → t < pair_count s → IsLeastPassing (pair_count s) (conjugate_to s t) (first_of_class s t)
  unfolding first_of_class
  first_is t below =
      least_passing (pair_count s) (conjugate_to s t) _
      (least_passing_found (pair_count s) (conjugate_to s t) t below (conjugate_itself s twist (pair_at s t) (pair_below s twist t below)))

  -- what is least is the first
  pub first_unique : (t u : ℕ) → t < pair_count s → IsLeastPassing (pair_count s) (conjugate_to s t) u → u ≡ first_of_class s t
  first_unique t u below l =
      let m = first_is t below in
      let one : u ≤ first_of_class s t = l.least (first_of_class s t) m.below m.passes in
      let two : first_of_class s t ≤ u = m.least u l.below l.passes in
      omega arith

  -- conjugacy of pairs by their numbers
  back : (t u : ℕ) → t < pair_count s → u < pair_count s → conjugate_to s t u ≡ true → conjugate_to s u t ≡ true
  back t u t_below u_below e = conjugate_back s twist (pair_at s u) (pair_at s t) (pair_below s twist u u_below) (pair_below s twist t t_below) e

  on : (t u v : ℕ) → t < pair_count s → u < pair_count s → v < pair_count s → conjugate_to s t u ≡ true → conjugate_to s u v ≡ true → conjugate_to s t v ≡ true
  on t u v t_below u_below v_below e f =
      conjugate_on s twist (pair_at s v) (pair_at s u) (pair_at s t) (pair_below s twist v v_below) (pair_below s twist u u_below) (pair_below s twist t t_below) f e

  -- conjugate pairs have one first pair
  first_same : (t u : ℕ) → t < pair_count s → u < pair_count s → conjugate_to s u t ≡ true → first_of_class s t ≡ first_of_class s u
  first_same t u t_below u_below e =
      let m = first_is t t_below in
      first_unique u (first_of_class s t) u_below (record {
        below = m.below;
        passes = on u t (first_of_class s t) u_below t_below m.below e m.passes;
        least = λ j j_below h. m.least j j_below (on t u j t_below u_below j_below (back u t u_below t_below e) h);
      })

  -- the first pair of a class is the first of its own
  first_twice : (t : ℕ) → t < pair_count s → first_of_class s (first_of_class s t) ≡ first_of_class s t
  first_twice t below = let m = first_is t below in first_same (first_of_class s t) t m.below below m.passes

  first_passes : (t : ℕ) → t < pair_count s → is_first_of_class s (first_of_class s t) ≡ true
  first_passes t below = eq-eqb _ _ (first_twice t below)

  -- the class number of a pair is that of its first
  pub number_of_first : (t : ℕ) → t < pair_count s → class_number s (first_of_class s t) ≡ class_number s t
  unfolding class_number
  number_of_first t below = ap (λ u. length (passing_below u (is_first_of_class s))) (first_twice t below)

  pub number_of_new : (t : ℕ) → first_of_class s t ≡ t → class_number s t ≡ length (passing_below t (is_first_of_class s))
  unfolding class_number
  number_of_new t e = ap (λ u. length (passing_below u (is_first_of_class s))) e

  -- different first pairs have different numbers
  firsts_apart : (a b : ℕ) → is_first_of_class s a ≡ true → is_first_of_class s b ≡ true
      → length (passing_below a (is_first_of_class s)) ≡ length (passing_below b (is_first_of_class s)) → a ≡ b
  firsts_apart a b p q e = elim (cases_order a b) [
    | inl equal ↦ equal
    | inr (inl less) ↦ let more = count_grows a b (is_first_of_class s) less p in absurd (omega arith)
    | inr (inr less) ↦ let more = count_grows b a (is_first_of_class s) less q in absurd (omega arith)
  ]

  pub numbers_tell : (t u : ℕ) → t < pair_count s → u < pair_count s → (class_number s t ≡ class_number s u) ↔ (are_conjugate s (pair_at s t) (pair_at s u) ≡ true)
  unfolding class_number
  numbers_tell t u t_below u_below = (
    λ e.
        let at_t = first_is t t_below in
        let at_u = first_is u u_below in
        let same : first_of_class s t ≡ first_of_class s u = firsts_apart _ _ (first_passes t t_below) (first_passes u u_below) e in
        on u (first_of_class s u) t u_below at_u.below t_below at_u.passes (rw (← same) (back t (first_of_class s t) t_below at_t.below at_t.passes)),
    λ e. ap (λ v. length (passing_below v (is_first_of_class s))) (first_same t u t_below u_below e),
  )

-- the numbers of the pairs below t, and the next new number
pub record IsNumberedBelow (s : TwistedSubgroup) (t : ℕ) (numbers : List ℕ) (next : ℕ) : Type 0 where
  pub count : length numbers ≡ t
  pub few : next ≤ t
  pub next_is : next ≡ length (passing_below t (is_first_of_class s))
  pub each : (u : ℕ) → u < t → get_or numbers u 0 ≡ class_number s u

pub numbered_none : (s : TwistedSubgroup) → IsNumberedBelow s 0 [] 0
numbered_none s = record { count = refl; few = omega arith; next_is = sym (ap length (passing_below-zero (is_first_of_class s))); each = λ u none. absurd (omega arith) }

numbered_push : (s : TwistedSubgroup) (t v : ℕ) (numbers : List ℕ) → length numbers ≡ t → ((u : ℕ) → u < t → get_or numbers u 0 ≡ class_number s u)
    → v ≡ class_number s t → (u : ℕ) → u < t + 1 → get_or (numbers ++ v ∷ []) u 0 ≡ class_number s u
numbered_push s t v numbers count each here =
    below_more (λ u. get_or (numbers ++ v ∷ []) u 0 ≡ class_number s u) t
    (λ u less. get_or_append_left numbers (v ∷ []) 0 u (omega arith) ∙ each u less)
    (get_or_push numbers v 0 t count ∙ here)

module _ (s : TwistedSubgroup) (twist : IsTwist s) where
  -- the pair t has the number of the first of its class, a lower one
  pub numbered_old : (t next v : ℕ) (numbers : List ℕ) → t < pair_count s → IsNumberedBelow s t numbers next
      → first_of_class s t < t → v ≡ get_or numbers (first_of_class s t) 0 → IsNumberedBelow s (t + 1) (numbers ++ v ∷ []) next
  numbered_old t next v numbers below h less e = record {
    count = length-append numbers (v ∷ []) ∙ omega (arith, h.count);
    few = omega (arith, h.few);
    next_is = h.next_is ∙ sym (ap length (passing_below-fails t (is_first_of_class s) (ne_eqb (first_of_class s t) t (λ same. absurd (omega arith)))));
    each = numbered_push s t v numbers h.count h.each (e ∙ h.each (first_of_class s t) less ∙ number_of_first s twist t below);
  }

  -- the pair t is the first of its class
  pub numbered_new : (t next : ℕ) (numbers : List ℕ) → IsNumberedBelow s t numbers next → first_of_class s t ≡ t → IsNumberedBelow s (t + 1) (numbers ++ next ∷ []) (next + 1)
  numbered_new t next numbers h e = record {
    count = length-append numbers (next ∷ []) ∙ omega (arith, h.count);
    few = omega (arith, h.few);
    next_is =
        let more = ap length (passing_below-passes t (is_first_of_class s) (eq-eqb _ _ e)) in
        omega (arith, more, h.next_is, length-append (passing_below t (is_first_of_class s)) (t ∷ []));
    each = numbered_push s t next numbers h.count h.each (h.next_is ∙ sym (number_of_new s twist t e));
  }
