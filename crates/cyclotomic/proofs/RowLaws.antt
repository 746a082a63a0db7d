-- The rows are the reduced powers of x, and their sums are polynomials at x^t.
use Rattle.cyclotomic.proofs.Names.{◌≡◌, ℕ, zero, suc, ◌+◌, ◌%◌, ◌<◌, List, [], ◌∷◌, get_or, refl, sym, ap, ◌∙◌, arith, mod-lt, ℤ, ap₂, plus, scaled, degree, Value, value_sum, value_multiple, value_nought, value_of, value_one, value_root, map_power, iterate, iterate-inner, iterate-suc, iterate-sum, iterate-zero, map_nought, iterate-add, iterate-scale, act, act-nil, act-cons, value_shift, times_x}
use Rattle.cyclotomic.proofs.Rows.{rows_from, power_rows, sum_of_rows}
use Rattle.cyclotomic.proofs.Images.{root_steps, steps-mod}

pub row-at : (m : List ℤ) (u : Value (degree m)) (n i : ℕ) → i < n → get_or (rows_from m u.coefficients n) i [] ≡ (iterate (value_shift m) i u).coefficients
unfolding rows_from iterate value_shift
row-at m u zero i h = absurd (omega arith)
row-at m u (suc n) zero h = refl
row-at m u (suc n) (suc i) h =
    row-at m (value_shift m u) n i (omega arith)
    ∙ ap (λ v. v.coefficients) (iterate-inner (times_x m) i u)

pub power_row-at : (m : List ℤ) (k i : ℕ) → i < k → get_or (power_rows m k) i [] ≡ (value_root m i).coefficients
unfolding power_rows value_of
power_row-at m k i h =
    row-at m (value_one m) k i h ∙ ap (λ v. v.coefficients) (sym (root_steps m i))

module _ (m : List ℤ) (k : ℕ) (positive : 0 < k) (periodic : value_root m k ≡ value_one m) (t : ℕ) where
  step_nought : (e : ℕ) → iterate (value_shift m) e value_nought ≡ value_nought
  step_nought zero = iterate-zero (times_x m) value_nought
  step_nought (suc e) = simp (iterate-suc (times_x m), step_nought e, map_nought (times_x m))

  pub sum_of_rows-act : (p : List ℤ) (e : ℕ) → e < k → sum_of_rows (degree m) (power_rows m k) k t e p ≡ (iterate (value_shift m) e (act (map_power (times_x m) t) p (value_one m))).coefficients
  unfolding sum_of_rows value_nought value_sum value_multiple
  sum_of_rows-act [] e h =
      ap (λ v. v.coefficients) (sym (step_nought e)
      ∙ ap (iterate (value_shift m) e) (sym (act-nil (map_power (times_x m) t) (value_one m))))
  sum_of_rows-act (a ∷ p) e h =
      let M = times_x m in
      let Mt = map_power M t in
      let rest = act Mt p (value_one m) in
      let moved : iterate (value_shift m) ((e + t) % k) rest ≡ iterate (value_shift m) e (iterate (value_shift m) t rest) =
      sym (steps-mod m k periodic positive (e + t) rest) ∙ iterate-sum M e t rest in
      let split : iterate (value_shift m) e (act Mt (a ∷ p) (value_one m)) ≡ value_sum (value_multiple a (iterate (value_shift m) e (value_one m))) (iterate (value_shift m) e (iterate (value_shift m) t rest)) =
      simp (act-cons Mt a p (value_one m), iterate-add M, iterate-scale M) in
      ap₂ (λ x y. plus (scaled a x) y)
      (power_row-at m k e h ∙ ap (λ v. v.coefficients) (root_steps m e))
      (sum_of_rows-act p ((e + t) % k) (mod-lt (e + t) positive) ∙ ap (λ v. v.coefficients) moved)
      ∙ ap (λ v. v.coefficients) (sym split)
