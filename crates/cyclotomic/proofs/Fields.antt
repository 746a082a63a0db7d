-- The facts about Phi_K at each conductor K: it is monic of degree phi(K), x^K is 1, and it divides itself at x^t for t prime to K.
use Rattle.cyclotomic.proofs.Names.{◌≡◌, ℕ, ◌%◌, ◌<◌, List, length, true, sym, ap, ◌∙◌, subst, mod-lt, ℤ, pos, IsGcd, zeros, at_power, leading, lower, degree, cyclotomic, reduction_of, is_conductor, phi_of, Value, value_nought, value_of, value_one, value_root, map_power, iterate-zero, act, act-at_power, act-same_map, leading-last, lower-last, same_value, times_x, value_of-act}
use Rattle.cyclotomic.proofs.Images.{steps-mod}
use Rattle.cyclotomic.proofs.Rows.{power_rows, sum_of_rows}
use Rattle.cyclotomic.proofs.RowLaws.{sum_of_rows-act}
use Rattle.cyclotomic.proofs.Gcd.{euclid_of_prime}
use Rattle.cyclotomic.proofs.Checks.{listed, cyclotomic_is, conductor_positive, reduction_length, listed_period, listed_sums, listed_divides, powers_of_multiples}

pub degree_listed : (k : ℕ) → degree (listed k) ≡ length (reduction_of k)
degree_listed k = ap length (lower-last (reduction_of k) (pos 1))

-- a value all of whose coefficients are 0
pub value_zeros : {n : ℕ} (u : Value n) (j : ℕ) → u.coefficients ≡ zeros j → j ≡ n → u ≡ value_nought
unfolding value_nought
value_zeros u j e same = same_value _ _ (e ∙ ap zeros same)

module _ (k : ℕ) (entry : is_conductor k ≡ true) where
  -- what holds of the listed polynomial holds of Phi_K
  pub from_listed : (P : List ℤ → Type 0) → P (listed k) → P (cyclotomic k)
  from_listed P h = subst P (sym (cyclotomic_is k entry)) h

  pub cyclotomic_monic : leading (cyclotomic k) ≡ pos 1
  cyclotomic_monic = from_listed (λ m. leading m ≡ pos 1) (leading-last (reduction_of k) (pos 1))

  pub cyclotomic_lower : lower (cyclotomic k) ≡ reduction_of k
  cyclotomic_lower = from_listed (λ m. lower m ≡ reduction_of k) (lower-last (reduction_of k) (pos 1))

  pub cyclotomic_degree : degree (cyclotomic k) ≡ phi_of k
  cyclotomic_degree = ap length cyclotomic_lower ∙ reduction_length k entry

  period_of_listed : value_root (listed k) k ≡ value_one (listed k)
  unfolding value_of
  period_of_listed = same_value _ _ (listed_period k entry)

  pub cyclotomic_period : value_root (cyclotomic k) k ≡ value_one (cyclotomic k)
  cyclotomic_period = from_listed (λ m. value_root m k ≡ value_one m) period_of_listed

  sums_of_listed : (g : ℕ) → g < k → k % g ≡ 0 → value_of (listed k) (powers_of_multiples k g) ≡ value_nought
  unfolding value_of
  sums_of_listed g small divides =
      value_zeros (value_of (listed k) (powers_of_multiples k g)) (length (reduction_of k))
      (listed_sums k entry g small divides) (sym (degree_listed k))

  pub cyclotomic_sums : (g : ℕ) → g < k → k % g ≡ 0 → value_of (cyclotomic k) (powers_of_multiples k g) ≡ value_nought
  cyclotomic_sums g small divides =
      from_listed (λ m. value_of m (powers_of_multiples k g) ≡ value_nought) (sums_of_listed g small divides)

  listed_vanishes : (t : ℕ) → IsGcd t k 1 → value_root (listed k) k ≡ value_one (listed k) → value_of (listed k) (at_power t (listed k)) ≡ value_nought
  listed_vanishes t prime periodic =
      let m = listed k in
      let M = times_x m in
      let positive : 0 < k = conductor_positive k entry in
      let s = t % k in
      let zero_rows : sum_of_rows (degree m) (power_rows m k) k s 0 m ≡ zeros (length (reduction_of k)) =
      ap (λ n. sum_of_rows n (power_rows m k) k s 0 m) (degree_listed k)
      ∙ listed_divides k entry s (mod-lt t positive) (euclid_of_prime t k positive prime) in
      let at_s : act (map_power M s) m (value_one m) ≡ value_nought =
      value_zeros (act (map_power M s) m (value_one m)) (length (reduction_of k))
      (ap (λ v. v.coefficients) (sym (iterate-zero M (act (map_power M s) m (value_one m))))
      ∙ sym (sum_of_rows-act m k positive periodic s m 0 positive) ∙ zero_rows)
      (sym (degree_listed k)) in
      value_of-act m (at_power t m) ∙ act-at_power M t m (value_one m)
      ∙ act-same_map M t s (steps-mod m k periodic positive t) m (value_one m)
      ∙ at_s

  pub cyclotomic_divides : (t : ℕ) → IsGcd t k 1 → value_of (cyclotomic k) (at_power t (cyclotomic k)) ≡ value_nought
  cyclotomic_divides t prime =
      from_listed (λ m. value_of m (at_power t m) ≡ value_nought) (listed_vanishes t prime period_of_listed)
