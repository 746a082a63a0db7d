-- Adding a polynomial at x^t, times a power of x, place by place modulo K.
use Rattle.qd_ring.proofs.Names.{◌≡◌, ℕ, zero, suc, ◌+◌, ◌*◌, ◌%◌, ◌≤◌, ◌<◌, true, List, [], ◌∷◌, length, get_or, take, refl, sym, ap, ◌∙◌, arith, mul-zero, mod-add-mod, mod-eq_of_lt, add-zero, add-one, ℤ, pos, nat_abs, ap₂, at_power, degree, cyclotomic, is_conductor, Value, value_sum, value_multiple, value_nought, value_of, value_one, value_product, value_root, CyclotomicValue, cyclotomic_value, root, map_power, act-scale, act-at_power, iterate-power, act-nought, times_x, value_of-act, value_of-nil, product-act, product_sum, sum_assoc, root_steps, root-sum, root_modulo, total_of}
use Rattle.qd_ring.proofs.BufferLaws.{act-take_suc}

pub product-multiple : (m : List ℤ) (c : ℤ) (u v : Value (degree m)) → value_product m u (value_multiple c v) ≡ value_multiple c (value_product m u v)
product-multiple m c u v =
    product-act m u (value_multiple c v) ∙ act-scale (times_x m) u.coefficients c v
    ∙ ap (value_multiple c) (sym (product-act m u v))

pub product-nought : (m : List ℤ) (u : Value (degree m)) → value_product m u value_nought ≡ value_nought
product-nought m u = product-act m u value_nought ∙ act-nought (times_x m) u.coefficients

-- one more coefficient of a polynomial at x^t
pub value-at_power_suc : (m xs : List ℤ) (t j : ℕ) → j < length xs → value_of m (at_power t (take (suc j) xs)) ≡ value_sum (value_of m (at_power t (take j xs))) (value_multiple (get_or xs j (pos 0)) (value_root m (t * j)))
value-at_power_suc m xs t j h =
    let M = times_x m in
    value_of-act m (at_power t (take (suc j) xs))
    ∙ act-at_power M t (take (suc j) xs) (value_one m)
    ∙ act-take_suc (map_power M t) xs j (value_one m) h
    ∙ ap₂ value_sum (sym (act-at_power M t (take j xs) (value_one m)) ∙ sym (value_of-act m (at_power t (take j xs))))
    (ap (value_multiple (get_or xs j (pos 0))) (iterate-power M t j (value_one m) ∙ sym (root_steps m (t * j))))

pub at_power-nil : (t : ℕ) → at_power t [] ≡ []
unfolding at_power
at_power-nil t = refl

pub total-take_suc : (xs : List ℤ) (j : ℕ) → j < length xs → total_of (take (suc j) xs) ≡ total_of (take j xs) + nat_abs (get_or xs j (pos 0))
unfolding total_of
total-take_suc [] j h = absurd (omega arith)
total-take_suc (a ∷ xs) zero h = omega arith
total-take_suc (a ∷ xs) (suc j) h = omega (arith, total-take_suc xs j (omega arith))

pub total-take : (xs : List ℤ) (j : ℕ) → total_of (take j xs) ≤ total_of xs
unfolding total_of
total-take xs zero = omega arith
total-take [] (suc j) = omega arith
total-take (a ∷ xs) (suc j) = omega (arith, total-take xs j)

-- ---- the place of a coefficient
pub place_start : (k start t : ℕ) → start < k → start ≡ (start + t * 0) % k
place_start k start t h = sym (ap (λ n. n % k) (ap (λ n. start + n) (mul-zero t) ∙ add-zero start) ∙ mod-eq_of_lt h)

pub place_next : (k start t i place : ℕ) → place ≡ (start + t * i) % k → (place + t) % k ≡ (start + t * (i + 1)) % k
place_next k start t i place e =
    let whole : start + t * i + t ≡ start + t * (i + 1) = omega arith in
    ap (λ n. (n + t) % k) e ∙ mod-add-mod (start + t * i) k t ∙ ap (λ n. n % k) whole

module _ (k : ℕ) (entry : is_conductor k ≡ true) (start t : ℕ) (xs : List ℤ) where
  -- what is added by the first i coefficients
  abbrev pub spread_by : ℕ → CyclotomicValue k
  spread_by i = value_product (cyclotomic k) (root k start) (cyclotomic_value k (at_power t (take i xs)))

  pub spread_none : spread_by 0 ≡ value_nought
  spread_none =
      ap (λ p. value_product (cyclotomic k) (root k start) (value_of (cyclotomic k) p)) (at_power-nil t)
      ∙ ap (value_product (cyclotomic k) (root k start)) (value_of-nil (cyclotomic k))
      ∙ product-nought (cyclotomic k) (root k start)

  pub spread_more : (i place : ℕ) → i < length xs → place ≡ (start + t * i) % k → spread_by (i + 1) ≡ value_sum (spread_by i) (value_multiple (get_or xs i (pos 0)) (root k place))
  spread_more i place h e =
      let m = cyclotomic k in
      let r = root k start in
      let a = get_or xs i (pos 0) in
      ap (λ n. value_product m r (value_of m (at_power t (take n xs)))) (add-one i)
      ∙ ap (value_product m r) (value-at_power_suc m xs t i h)
      ∙ product_sum m r (value_of m (at_power t (take i xs))) (value_multiple a (root k (t * i)))
      ∙ ap (value_sum (value_product m r (value_of m (at_power t (take i xs)))))
      (product-multiple m a r (root k (t * i))
      ∙ ap (value_multiple a)
      (sym (root-sum m start (t * i)) ∙ root_modulo k entry (start + t * i) ∙ ap (root k) (sym e)))

  -- one step of the loop
  pub spread_step : (old now next : CyclotomicValue k) (i place : ℕ) → i < length xs → place ≡ (start + t * i) % k → now ≡ value_sum old (spread_by i) → next ≡ value_sum now (value_multiple (get_or xs i (pos 0)) (root k place)) → next ≡ value_sum old (spread_by (i + 1))
  spread_step old now next i place h e before is =
      let added = value_multiple (get_or xs i (pos 0)) (root k place) in
      is ∙ ap (λ z. value_sum z added) before
      ∙ sum_assoc (cyclotomic k) old (spread_by i) added
      ∙ ap (value_sum old) (sym (spread_more i place h e))
