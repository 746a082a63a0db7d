-- The greatest common divisor divides both numbers, and what is left of each.
use Rattle.cocycle_make.proofs.Names.{◌≡◌, ℕ, zero, suc, ◌+◌, ◌*◌, ◌/◌, ◌%◌, ◌<◌, ◌≤◌, Bool, true, false, ◌&&◌, nat_eq, cond, refl, sym, ap, ◌∙◌, arith, add-one, mod-lt, mod-one, div-le_self, mul_comm, mul_assoc, div-add-mod', le-div, eqb-true, and_true, Same, same_of, same_trans, same_multiple, greatest, divides_both, common_divisor, roots_of, step_of}

pub greatest-zero : (test : ℕ → Bool) → greatest 0 test ≡ 0
unfolding greatest
greatest-zero test = refl

pub greatest-suc : (n : ℕ) (test : ℕ → Bool) → greatest (suc n) test ≡ cond (test (suc n)) (suc n) (greatest n test)
unfolding greatest
greatest-suc n test = refl

-- what is found passes, and is from 1 to n
pub record Found (n : ℕ) (test : ℕ → Bool) : Type 0 where
  pub passes : test (greatest n test) ≡ true
  pub positive : 0 < greatest n test
  pub most : greatest n test ≤ n

found_step : (n : ℕ) (test : ℕ → Bool) (b : Bool) → test (suc n) ≡ b → test 1 ≡ true → (0 < n → Found n test) → Found (suc n) test
found_step n test true e one before =
    let here : greatest (suc n) test ≡ suc n = rw (greatest-suc n test, e) refl in
    record { passes = rw here e; positive = rw here (omega arith); most = rw here (omega arith) }
found_step zero test false e one before = absurd cc
found_step (suc m) test false e one before =
    let here : greatest (suc (suc m)) test ≡ greatest (suc m) test = rw (greatest-suc (suc m) test, e) refl in
    let found = before (omega arith) in
    record { passes = rw here found.passes; positive = rw here found.positive; most = rw here (omega (arith, found.most)) }

pub greatest_found : (n : ℕ) (test : ℕ → Bool) → 0 < n → test 1 ≡ true → Found n test
greatest_found zero test positive one = absurd (omega arith)
greatest_found (suc n) test positive one = found_step n test (test (suc n)) refl one (λ more. greatest_found n test more one)

-- one more number that is tried
pub greatest-passes : (n : ℕ) (test : ℕ → Bool) → test (n + 1) ≡ true → greatest (n + 1) test ≡ n + 1
greatest-passes n test e =
    let here : test (suc n) ≡ true = rw add-one at e in
    rw (add-one, greatest-suc n test, here) refl

pub greatest-fails : (n : ℕ) (test : ℕ → Bool) → test (n + 1) ≡ false → greatest (n + 1) test ≡ greatest n test
greatest-fails n test e =
    let here : test (suc n) ≡ false = rw add-one at e in
    rw (add-one, greatest-suc n test, here) refl

pub record Divides (n p d : ℕ) : Type 0 where
  pub positive : 0 < d
  pub most : d ≤ n
  pub first : n % d ≡ 0
  pub last : p % d ≡ 0

pub divisor : (n p : ℕ) → 0 < n → Divides n p (common_divisor n p)
divisor n p positive =
    let found = greatest_found n (divides_both n p) positive (one (n % 1) (p % 1) (mod-one n) (mod-one p)) in
    let both = and_true _ _ found.passes in
    record { positive = found.positive; most = found.most; first = eqb-true _ _ both.0; last = eqb-true _ _ both.1 }
  where
    one : (a b : ℕ) → a ≡ 0 → b ≡ 0 → nat_eq a 0 && nat_eq b 0 ≡ true
    one a b e h = rw (e, h) refl

-- the class p modulo n in lowest terms
pub record InLowestTerms (n p : ℕ) : Type 0 where
  pub from_one : 1 ≤ roots_of n p
  pub to_most : roots_of n p ≤ n
  pub step_below : step_of n p < n
  pub turns : Same (roots_of n p) (step_of n p * n) 0

pub lowest_terms : (n p : ℕ) → 0 < n → InLowestTerms n p
lowest_terms n p positive =
    let d = divisor n (p % n) positive in
    let g = common_divisor n (p % n) in
    let roots : n / g * g ≡ n = omega (arith, div-add-mod' n g, d.first) in
    let step : p % n / g * g ≡ p % n = omega (arith, div-add-mod' (p % n) g, d.last) in
    let below : p % n < n = mod-lt p positive in
    record {
      from_one = le-div 1 n g d.positive (omega (arith, d.most));
      to_most = div-le_self n g;
      step_below = omega (arith, div-le_self (p % n) g);
      turns = same_trans (same_of (n / g) (turned (p % n / g) g (n / g) n (p % n) roots step)) (same_multiple (n / g) (p % n));
    }
  where
    turned : (q g roots n p : ℕ) → roots * g ≡ n → q * g ≡ p → q * n ≡ p * roots
    turned q g roots n p e h = rw (← e, ← h) (ap (λ z. q * z) (mul_comm roots g) ∙ sym (mul_assoc q g roots))
