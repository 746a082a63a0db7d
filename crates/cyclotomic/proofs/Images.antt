-- Powers of x modulo a monic polynomial m, and the images under which x goes to x^t.
use Rattle.cyclotomic.proofs.Names.{◌≡◌, ℕ, zero, suc, ◌+◌, ◌*◌, ◌%◌, ◌/◌, ◌<◌, List, [], ◌∷◌, refl, sym, ap, ◌∙◌, arith, ℤ, pos, ap₂, times, x_to, at_power, leading, degree, Value, value_sum, value_nought, value_of, value_one, value_product, value_root, value_image, map_power, iterate, act, act-nil, act-cons, act-plus, act-times, act-x_to, act-remainder, act-at_power, act-same_map, act-power_power, act-one, act-iterate, iterate-sum, iterate-power, iterate-zero, value_shift, times_x, value_of-act, act-itself, product-of}

module _ (m : List ℤ) where
  -- x^v, as the steps "times x" from 1
  pub root_steps : (v : ℕ) → value_root m v ≡ iterate (value_shift m) v (value_one m)
  root_steps v = value_of-act m (x_to v) ∙ act-x_to (times_x m) v (value_one m)

  pub root-zero : value_root m 0 ≡ value_one m
  root-zero = root_steps 0 ∙ iterate-zero (times_x m) (value_one m)

  -- a product with x^v is v steps
  pub product-root : (v : ℕ) (u : Value (degree m)) → value_product m (value_root m v) u ≡ iterate (value_shift m) v u
  product-root v u = product-of m (x_to v) u ∙ act-x_to (times_x m) v u

  pub root-sum : (v w : ℕ) → value_root m (v + w) ≡ value_product m (value_root m v) (value_root m w)
  root-sum v w =
      root_steps (v + w) ∙ iterate-sum (times_x m) v w (value_one m)
      ∙ ap (iterate (value_shift m) v) (sym (root_steps w))
      ∙ sym (product-root v (value_root m w))

  module _ (k : ℕ) (periodic : value_root m k ≡ value_one m) where
    -- where x^k is 1, k steps change nothing
    pub steps_of_period : (u : Value (degree m)) → iterate (value_shift m) k u ≡ u
    steps_of_period u =
        ap (iterate (value_shift m) k) (sym (act-itself m u))
        ∙ sym (act-iterate (times_x m) u.coefficients k (value_one m))
        ∙ ap (act (times_x m) u.coefficients) (sym (root_steps k) ∙ periodic)
        ∙ act-itself m u

    pub steps_of_periods : (j : ℕ) (u : Value (degree m)) → iterate (value_shift m) (k * j) u ≡ u
    unfolding iterate
    steps_of_periods j u = sym (iterate-power (times_x m) k j u) ∙ all_the_same j
      where
        all_the_same : (i : ℕ) → iterate (iterate (value_shift m) k) i u ≡ u
        all_the_same zero = refl
        all_the_same (suc i) = ap (iterate (value_shift m) k) (all_the_same i) ∙ steps_of_period u

    pub steps-mod : 0 < k → (v : ℕ) (u : Value (degree m)) → iterate (value_shift m) v u ≡ iterate (value_shift m) (v % k) u
    steps-mod h v u =
        let e : v ≡ v % k + k * (v / k) = omega arith in
        ap (λ n. iterate (value_shift m) n u) e
        ∙ iterate-sum (times_x m) (v % k) (k * (v / k)) u
        ∙ ap (iterate (value_shift m) (v % k)) (steps_of_periods (v / k) u)

    pub root-mod : 0 < k → (v : ℕ) → value_root m v ≡ value_root m (v % k)
    root-mod h v =
        root_steps v ∙ steps-mod h v (value_one m) ∙ sym (root_steps (v % k))

  -- ---- images
  -- p at x^t is p of the steps by x^t, at 1
  at_power-act : (t : ℕ) (p : List ℤ) → value_of m (at_power t p) ≡ act (map_power (times_x m) t) p (value_one m)
  at_power-act t p = value_of-act m (at_power t p) ∙ act-at_power (times_x m) t p (value_one m)

  image-act : (t : ℕ) (u : Value (degree m)) → value_image m t u ≡ act (map_power (times_x m) t) u.coefficients (value_one m)
  unfolding value_image
  image-act t u = at_power-act t u.coefficients

  -- images under numbers that are the same modulo k are the same, where x^k is 1
  pub image-mod : (k : ℕ) → value_root m k ≡ value_one m → 0 < k → (t : ℕ) (u : Value (degree m)) → value_image m t u ≡ value_image m (t % k) u
  image-mod k periodic h t u =
      image-act t u ∙ act-same_map (times_x m) t (t % k) (steps-mod k periodic h t) u.coefficients (value_one m) ∙ sym (image-act (t % k) u)

  pub image-sum : (t : ℕ) (u v : Value (degree m)) → value_image m t (value_sum u v) ≡ value_sum (value_image m t u) (value_image m t v)
  unfolding value_sum
  image-sum t u v =
      image-act t (value_sum u v) ∙ act-plus (map_power (times_x m) t) u.coefficients v.coefficients (value_one m)
      ∙ ap₂ value_sum (sym (image-act t u)) (sym (image-act t v))

  pub image-one_power : (u : Value (degree m)) → value_image m 1 u ≡ u
  unfolding iterate
  image-one_power u = image-act 1 u ∙ one_step u.coefficients ∙ act-itself m u
    where
      one_step : (p : List ℤ) → act (map_power (times_x m) 1) p (value_one m) ≡ act (times_x m) p (value_one m)
      one_step [] = simp act-nil
      one_step (a ∷ p) = simp (act-cons, one_step p)

  -- t is such that m divides m at x^t
  module _ (monic : leading m ≡ pos 1) (t : ℕ) (divides : value_of m (at_power t m) ≡ value_nought) where
    -- the image of a polynomial's value is the polynomial at x^t
    pub image-of : (p : List ℤ) → value_image m t (value_of m p) ≡ value_of m (at_power t p)
    unfolding value_of
    image-of p =
        image-act t (value_of m p)
        ∙ act-remainder (map_power (times_x m) t) m p (value_one m) monic (sym (at_power-act t m) ∙ divides)
        ∙ sym (at_power-act t p)

    pub image-one : value_image m t (value_one m) ≡ value_one m
    image-one = image-of (pos 1 ∷ []) ∙ at_power-act t (pos 1 ∷ []) ∙ act-one (map_power (times_x m) t) (value_one m)

    pub image-product : (u v : Value (degree m)) → value_image m t (value_product m u v) ≡ value_product m (value_image m t u) (value_image m t v)
    unfolding value_product value_image
    image-product u v =
        let M = times_x m in
        let p = u.coefficients in
        let q = v.coefficients in
        image-of (times p q) ∙ at_power-act t (times p q) ∙ act-times (map_power M t) p q (value_one m)
        ∙ sym (act-at_power M t p (act (map_power M t) q (value_one m)))
        ∙ ap (act M (at_power t p)) (sym (image-act t v))
        ∙ sym (product-of m (at_power t p) (value_image m t v))

    pub image-root : (v : ℕ) → value_image m t (value_root m v) ≡ value_root m (t * v)
    image-root v =
        image-of (x_to v) ∙ at_power-act t (x_to v) ∙ act-x_to (map_power (times_x m) t) v (value_one m)
        ∙ iterate-power (times_x m) t v (value_one m) ∙ sym (root_steps (t * v))

    -- the image under t of the image under s is the image under t s
    pub image-image : (s : ℕ) (u : Value (degree m)) → value_image m t (value_image m s u) ≡ value_image m (t * s) u
    unfolding value_image
    image-image s u =
        let M = times_x m in
        image-of (at_power s u.coefficients) ∙ at_power-act t (at_power s u.coefficients)
        ∙ act-at_power (map_power M t) s u.coefficients (value_one m)
        ∙ act-power_power M t s u.coefficients (value_one m)
        ∙ sym (image-act (t * s) u)
