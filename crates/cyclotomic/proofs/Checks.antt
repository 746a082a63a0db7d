-- Facts about each entry of the table of conductors, by tests that are computed.
use Rattle.cyclotomic.proofs.Names.{size_of, nat_le, ◌≡◌, ℕ, suc, ◌*◌, ◌%◌, ◌/◌, ◌<◌, List, [], ◌∷◌, ◌++◌, length, Bool, true, refl, sym, ap, ◌∙◌, replicate, eqb-true, eq-eqb, ◌≢◌, ne_eqb, cases_lt, arith, not, ◌||◌, inl, inr, ltb-true, ℤ, pos, ◌==◌, nat_lt, list_all, list_any, mod_self, mod-eq_of_lt, all_below, zeros, plus, scaled, times, x_to, at_power, leading, lower, cancelled, division, quotient, remainder, divided_by_divisors, next_cyclotomic, cyclotomics, cyclotomic, divisor_product, x_to_minus_one, conductors, reductions, reduction_of, is_conductor, phi_of}
use Rattle.std.specs.Cmp.{signed_Decides}
use Rattle.std.specs.Prelude.{is_some}
use Rattle.scan.specs.First.{first}
use Rattle.scan.proofs.Searches.{place_if, least_passing, some_of}
use Rattle.std.specs.Ordering.{int_eq}
use Rattle.cyclotomic.proofs.Gcd.{euclid}
use Rattle.cyclotomic.proofs.Rows.{rows_from, power_rows, sum_of_rows}
use Rattle.cyclotomic.proofs.Tests.{same_list, same_list_means, all_entries, at_each_conductor, all_below_means}

-- Phi_K, as it is listed
abbrev pub listed : ℕ → List ℤ
listed k = reduction_of k ++ (pos 1 ∷ [])

-- ---- two lists that are compared at each conductor
same_at_each : (left right : ℕ → List ℤ) → list_all (λ (entry : ℕ × ℕ). same_list (left entry.0) (right entry.0)) conductors ≡ true
    → (k : ℕ) → is_conductor k ≡ true → left k ≡ right k
same_at_each left right all k entry = same_list_means (left k) (right k) (at_each_conductor (λ j. same_list (left j) (right j)) all k entry)

-- the listed reductions are Phi_K,
all_listed : list_all (λ (entry : ℕ × ℕ). same_list (cyclotomic entry.0) (listed entry.0)) conductors ≡ true
unfolding plus scaled times leading lower x_to cancelled division quotient remainder divided_by_divisors next_cyclotomic cyclotomics cyclotomic conductors reductions reduction_of
all_listed = refl

pub cyclotomic_is : (k : ℕ) → is_conductor k ≡ true → cyclotomic k ≡ listed k
cyclotomic_is = same_at_each cyclotomic listed all_listed

-- and x^K is 1
all_periods : list_all (λ (entry : ℕ × ℕ). same_list (remainder (listed entry.0) (x_to entry.0)) (remainder (listed entry.0) (pos 1 ∷ []))) conductors ≡ true
unfolding plus scaled leading lower x_to cancelled division remainder conductors reductions reduction_of
all_periods = refl

pub listed_period : (k : ℕ) → is_conductor k ≡ true → remainder (listed k) (x_to k) ≡ remainder (listed k) (pos 1 ∷ [])
listed_period = same_at_each (λ j. remainder (listed j) (x_to j)) (λ j. remainder (listed j) (pos 1 ∷ [])) all_periods

-- ---- numbers: K is positive, phi is the degree, and 1 isn't 0
all_positive : list_all (λ (entry : ℕ × ℕ). nat_lt 0 entry.0) conductors ≡ true
unfolding conductors
all_positive = refl

pub conductor_positive : (k : ℕ) → is_conductor k ≡ true → 0 < k
conductor_positive k entry = ltb-true 0 k (at_each_conductor (λ j. nat_lt 0 j) all_positive k entry)

all_degrees : list_all (λ (entry : ℕ × ℕ). length (reduction_of entry.0) == phi_of entry.0) conductors ≡ true
unfolding conductors reductions reduction_of phi_of
all_degrees = refl

pub reduction_length : (k : ℕ) → is_conductor k ≡ true → length (reduction_of k) ≡ phi_of k
reduction_length k entry =
    eqb-true (length (reduction_of k)) (phi_of k) (at_each_conductor (λ j. length (reduction_of j) == phi_of j) all_degrees k entry)

unfoldable pub head_of : List ℤ → ℤ
head_of [] = pos 0
head_of (a ∷ p) = a

all_ones : list_all (λ (entry : ℕ × ℕ). int_eq (head_of (remainder (listed entry.0) (pos 1 ∷ []))) (pos 1)) conductors ≡ true
unfolding head_of plus scaled leading lower cancelled division remainder conductors reductions reduction_of
all_ones = refl

pub one_is_one : (k : ℕ) → is_conductor k ≡ true → head_of (remainder (listed k) (pos 1 ∷ [])) ≡ pos 1
one_is_one k entry =
    (signed_Decides (head_of (remainder (listed k) (pos 1 ∷ []))) (pos 1)).0
    (at_each_conductor (λ j. int_eq (head_of (remainder (listed j) (pos 1 ∷ []))) (pos 1)) all_ones k entry)

-- ---- reduced powers of x have coefficients -1, 0, 1
abbrev pub is_ternary : List ℤ → Bool
is_ternary p = nat_le (size_of p) 1

all_ternary : list_all (λ (entry : ℕ × ℕ). list_all is_ternary (power_rows (listed entry.0) entry.0)) conductors ≡ true
unfolding size_of power_rows rows_from plus scaled leading lower cancelled division remainder conductors reductions reduction_of
all_ternary = refl

pub listed_ternary : (k : ℕ) → is_conductor k ≡ true → list_all is_ternary (power_rows (listed k) k) ≡ true
listed_ternary = at_each_conductor (λ j. list_all is_ternary (power_rows (listed j) j)) all_ternary

-- ---- tests of the numbers below each conductor
-- a test that passes, of numbers for which a condition holds
under : {condition test : Bool} → (not condition || test) ≡ true → condition ≡ true → test ≡ true
under {condition} {test} passes e = sym (ap (λ b. not b || test) e) ∙ passes

below_each : (test : ℕ → ℕ → Bool) → list_all (λ (entry : ℕ × ℕ). all_below entry.0 (test entry.0)) conductors ≡ true
    → (k : ℕ) → is_conductor k ≡ true → (i : ℕ) → i < k → test k i ≡ true
below_each test all k entry = all_below_means k (test k) (at_each_conductor (λ j. all_below j (test j)) all k entry)

-- 1 + x^g + x^(2g) + .., the sum of all powers of x whose exponent below K is a multiple of g, where g divides K
unfoldable pub powers_of_multiples : ℕ → ℕ → List ℤ
powers_of_multiples k g = at_power g (replicate (k / g) (pos 1))

-- it vanishes for each proper divisor g
vanishes_at : ℕ → ℕ → Bool
vanishes_at k g = not (k % g == 0) || same_list (remainder (listed k) (powers_of_multiples k g)) (zeros (length (reduction_of k)))

all_vanish : list_all (λ (entry : ℕ × ℕ). all_below entry.0 (vanishes_at entry.0)) conductors ≡ true
unfolding vanishes_at powers_of_multiples all_below plus scaled leading lower at_power cancelled division remainder conductors reductions reduction_of
all_vanish = refl

-- each number that K doesn't divide has a multiple that is a divisor of K, modulo K
reaches_divisor : ℕ → ℕ → Bool
reaches_divisor k e = (e == 0) || is_some (first k (place_if (λ a. k % ((a * e) % k) == 0)))

all_reach : list_all (λ (entry : ℕ × ℕ). all_below entry.0 (reaches_divisor entry.0)) conductors ≡ true
unfolding reaches_divisor first all_below conductors
all_reach = refl

-- Phi_K divides Phi_K at x^t, for t prime to K
divides_at : ℕ → List (List ℤ) → ℕ → Bool
divides_at k rows t =
    not (euclid k k t == 1) || same_list (sum_of_rows (length (reduction_of k)) rows k t 0 (listed k)) (zeros (length (reduction_of k)))

all_divide : list_all (λ (entry : ℕ × ℕ). all_below entry.0 (divides_at entry.0 (power_rows (listed entry.0) entry.0))) conductors ≡ true
unfolding divides_at euclid power_rows rows_from sum_of_rows all_below plus scaled leading lower cancelled division remainder conductors reductions reduction_of
all_divide = refl

module _ (k : ℕ) (entry : is_conductor k ≡ true) where
  pub listed_sums : (g : ℕ) → g < k → k % g ≡ 0 → remainder (listed k) (powers_of_multiples k g) ≡ zeros (length (reduction_of k))
  unfolding vanishes_at
  listed_sums g small divides =
      same_list_means (remainder (listed k) (powers_of_multiples k g)) (zeros (length (reduction_of k)))
      (under (below_each vanishes_at all_vanish k entry g small) (eq-eqb (k % g) 0 divides))

  pub some_divisor : (e : ℕ) → e < k → e ≢ 0 → (a : ℕ) × (k % ((a * e) % k) ≡ 0)
  unfolding reaches_divisor
  some_divisor e small apart =
      let test : ℕ → Bool = λ a. k % ((a * e) % k) == 0 in
      let reached = below_each reaches_divisor all_reach k entry e small in
      let (a, found) = some_of (first k (place_if test)) (sym (ap (λ b. b || is_some (first k (place_if test))) (ne_eqb e 0 apart)) ∙ reached) in
      (a, eqb-true (k % ((a * e) % k)) 0 (least_passing k test a found).passes)

  pub listed_divides : (t : ℕ) → t < k → euclid k k t ≡ 1 → sum_of_rows (length (reduction_of k)) (power_rows (listed k) k) k t 0 (listed k) ≡ zeros (length (reduction_of k))
  unfolding divides_at
  listed_divides t small prime =
      same_list_means (sum_of_rows (length (reduction_of k)) (power_rows (listed k) k) k t 0 (listed k)) (zeros (length (reduction_of k)))
      (under (below_each (λ j. divides_at j (power_rows (listed j) j)) all_divide k entry t small) (eq-eqb (euclid k k t) 1 prime))

-- ---- x^d - 1 is the product of the Phi_e over the divisors e of d, and Phi_d is monic, for each divisor d of a conductor
-- the conductors, and before them the other divisors of conductors
divisors : List (ℕ × ℕ)
divisors = (1, 1) ∷ (2, 1) ∷ (3, 2) ∷ (5, 4) ∷ (7, 6) ∷ (10, 4) ∷ (14, 6) ∷ (15, 8) ∷ (21, 12) ∷ conductors

divides_only_if_listed : ℕ → ℕ → Bool
divides_only_if_listed k d = not (k % d == 0) || list_any (λ (entry : ℕ × ℕ). entry.0 == d) divisors

all_divisors_listed : list_all (λ (entry : ℕ × ℕ). all_below (suc entry.0) (divides_only_if_listed entry.0)) conductors ≡ true
unfolding divides_only_if_listed divisors conductors all_below
all_divisors_listed = refl

all_monic : list_all (λ (entry : ℕ × ℕ). int_eq (leading (cyclotomic entry.0)) (pos 1)) divisors ≡ true
unfolding divisors plus scaled times leading lower x_to cancelled division quotient remainder divided_by_divisors next_cyclotomic cyclotomics cyclotomic conductors
all_monic = refl

all_factored : list_all (λ (entry : ℕ × ℕ). same_list (divisor_product entry.0 entry.0) (x_to_minus_one entry.0)) divisors ≡ true
unfolding divisors plus scaled times leading lower x_to cancelled division quotient remainder divided_by_divisors next_cyclotomic cyclotomics cyclotomic divisor_product conductors
all_factored = refl

divisor_below : (k d : ℕ) → 0 < k → k % d ≡ 0 → d < suc k
divisor_below k d positive divides = elim (cases_lt k d) [
  | inl beyond ↦ absurd (omega (arith, mod-eq_of_lt beyond))
  | inr within ↦ omega arith
]

module _ (k : ℕ) (entry : is_conductor k ≡ true) where
  -- what passes at each listed divisor passes at each divisor
  at_divisor : (test : ℕ → Bool) → list_all (λ (e : ℕ × ℕ). test e.0) divisors ≡ true → (d : ℕ) → k % d ≡ 0 → test d ≡ true
  unfolding divides_only_if_listed
  at_divisor test all d divides =
      all_entries test d divisors all
      (under (all_below_means (suc k) (divides_only_if_listed k)
      (at_each_conductor (λ j. all_below (suc j) (divides_only_if_listed j)) all_divisors_listed k entry) d
      (divisor_below k d (conductor_positive k entry) divides)) (eq-eqb (k % d) 0 divides))

  pub divisor_factored : (d : ℕ) → k % d ≡ 0 → divisor_product d d ≡ x_to_minus_one d
  divisor_factored d divides =
      same_list_means (divisor_product d d) (x_to_minus_one d)
      (at_divisor (λ e. same_list (divisor_product e e) (x_to_minus_one e)) all_factored d divides)

  pub divisor_monic : (d : ℕ) → k % d ≡ 0 → leading (cyclotomic d) ≡ pos 1
  divisor_monic d divides =
      (signed_Decides (leading (cyclotomic d)) (pos 1)).0 (at_divisor (λ e. int_eq (leading (cyclotomic e)) (pos 1)) all_monic d divides)

  pub factored : divisor_product k k ≡ x_to_minus_one k
  factored = divisor_factored k (mod_self k)
