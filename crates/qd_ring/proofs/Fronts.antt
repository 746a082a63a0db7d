-- Lists that begin with another list, and numbers in decimal.
use Rattle.qd_ring.proofs.Names.{◌≡◌, ℕ, ◌+◌, ◌/◌, ◌%◌, ◌^◌, ◌<◌, ◌≤◌, List, [], ◌∷◌, ◌++◌, length, take, map, refl, sym, ◌∙◌, ap, arith, decimal, map-append, numeral}
use Rattle.std.specs.Int.Digits.{digits_of}
use Rattle.std.proofs.lemmas.Fmt.{decimal_by_steps_wide}
use Rattle.std.proofs.lemmas.Int.Digits.{digits_of_step}

pub front_trans : (xs ys zs : List ℕ) → take (length xs) ys ≡ xs → take (length ys) zs ≡ ys → take (length xs) zs ≡ xs
front_trans [] ys zs p q = refl
front_trans (x ∷ xs) [] zs p q = absurd (cc p)
front_trans (x ∷ xs) (y ∷ ys) [] p q = absurd (cc q)
front_trans (x ∷ xs) (y ∷ ys) (z ∷ zs) p q =
    let inner : take (length xs) ys ≡ xs = cc p in
    let outer : take (length ys) zs ≡ ys = cc q in
    let rest : take (length xs) zs ≡ xs = front_trans xs ys zs inner outer in
    cc (p, q, rest)

-- the last digit
pub numeral_step : (n : ℕ) → 0 < n → numeral n ≡ numeral (n / 10) ++ ((48 + n % 10) ∷ [])
numeral_step n h = ap (map (λ digit. 48 + digit)) (digits_of_step 10 n (omega arith) h) ∙ map-append (λ digit. 48 + digit) (digits_of 10 (n / 10)) (n % 10 ∷ [])

pub numeral_digit : (n : ℕ) → 0 < n → n < 10 → numeral n ≡ (48 + n) ∷ []
numeral_digit n h small =
    let front : n / 10 ≡ 0 = omega arith in
    let last : n % 10 ≡ n = omega arith in
    numeral_step n h ∙ ap (λ k. numeral k ++ ((48 + n % 10) ∷ [])) front ∙ ap (λ k. (48 + k) ∷ []) last

-- what std writes for a number up to 64 digits
pub decimal_is_numeral : (n : ℕ) → n < 10 ^ 64 → 0 < n → decimal n ≡ numeral n
decimal_is_numeral n small positive = decimal_by_steps_wide (λ k ds. 0 < k → ds ≡ numeral k) (λ k tiny h. sym (numeral_digit k h tiny)) more n small positive
  where
    more : (k : ℕ) (ds : List ℕ) → 10 ≤ k → (0 < k / 10 → ds ≡ numeral (k / 10)) → 0 < k → ds ++ ((48 + k % 10) ∷ []) ≡ numeral k
    more k ds big hyp h = ap (λ front. front ++ ((48 + k % 10) ∷ [])) (hyp (omega arith)) ∙ sym (numeral_step k h)
