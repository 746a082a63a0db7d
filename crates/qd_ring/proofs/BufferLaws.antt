-- Buffers of coefficients: adding a multiple of a power of x at a place, and one step of long division in place.
use Rattle.qd_ring.proofs.Names.{◌≡◌, ℕ, zero, suc, pred, ◌+◌, ◌^◌, ◌≤◌, ◌<◌, List, [], ◌∷◌, ◌++◌, length, get_or, set, take, take_all, length-scaled, refl, sym, ap, ◌∙◌, arith, add-one, ℤ, pos, negsuc, ◌+ℤ◌, ◌*ℤ◌, neg_ℤ, nat_abs, to_z-of_z, ap₂, w8, w128, SFits, to_z, of_z, plus, scaled, leading, lower, cancelled, size_of, value_sum, value_multiple, value_of, value_one, value_root, lower-last, LinearMap, iterate, act, act-nil, act-cons, iterate-zero, iterate-suc, map_nought, times_x, value_of-act, root_steps, total_of, magnitude-sum}
use Rattle.cyclotomic.specs.Laws.Integers as Z

-- ---- numbers of 128 bits
pub fits_128 : (z : ℤ) → nat_abs z < 2 ^ 127 → SFits w128 z
fits_128 (pos n) h = record { sfits = h }
fits_128 (negsuc n) h = record { sfits = omega arith }

pub read_128 : (z : ℤ) → nat_abs z < 2 ^ 127 → to_z w128 (of_z w128 z) ≡ z
read_128 z h = to_z-of_z w128 z (fits_128 z h)

pub read_sum : (a c : ℤ) → nat_abs a + nat_abs c < 2 ^ 127 → to_z w128 (of_z w128 (to_z w128 (of_z w128 a) +ℤ to_z w128 (of_z w128 c))) ≡ a +ℤ c
read_sum a c h =
    ap₂ (λ x y. to_z w128 (of_z w128 (x +ℤ y))) (read_128 a (omega arith)) (read_128 c (omega arith))
    ∙ read_128 (a +ℤ c) (omega (arith, magnitude-sum a c))

-- ---- magnitudes at a place
pub magnitude_at : (xs : List ℤ) (v : ℕ) → nat_abs (get_or xs v (pos 0)) ≤ total_of xs
unfolding total_of
magnitude_at [] v = omega arith
magnitude_at (a ∷ xs) zero = omega arith
magnitude_at (a ∷ xs) (suc v) = omega (arith, magnitude_at xs v)

pub size_at : (xs : List ℤ) (v : ℕ) → nat_abs (get_or xs v (pos 0)) ≤ size_of xs
unfolding size_of
size_at [] v = omega arith
size_at (a ∷ xs) zero = omega arith
size_at (a ∷ xs) (suc v) = omega (arith, size_at xs v)

-- ---- adding at a place
pub total-add : (xs : List ℤ) (v : ℕ) (c : ℤ) → total_of (set xs v (get_or xs v (pos 0) +ℤ c)) ≤ total_of xs + nat_abs c
unfolding total_of
total-add [] v c = omega arith
total-add (a ∷ xs) zero c = omega (arith, magnitude-sum a c)
total-add (a ∷ xs) (suc v) c = omega (arith, total-add xs v c)

module _ {V : Type 0} (M : LinearMap V) where
  pub act-add_at : (xs : List ℤ) (v : ℕ) (c : ℤ) (w : V) → v < length xs → act M (set xs v (get_or xs v (pos 0) +ℤ c)) w ≡ M.add (act M xs w) (M.scale c (iterate M.map v w))
  act-add_at [] v c w h = absurd (omega arith)
  act-add_at (a ∷ xs) zero c w h = simp (act-cons M, M.scale_sum, iterate-zero M, M.add_assoc, M.add_comm (M.scale c w))
  act-add_at (a ∷ xs) (suc v) c w h =
      simp (act-cons M, act-add_at xs v c w (omega arith), M.map_add, M.map_scale, iterate-suc M, M.add_assoc)

  -- one more coefficient at the end
  pub act-take_suc : (xs : List ℤ) (j : ℕ) (w : V) → j < length xs → act M (take (suc j) xs) w ≡ M.add (act M (take j xs) w) (M.scale (get_or xs j (pos 0)) (iterate M.map j w))
  act-take_suc [] j w h = absurd (omega arith)
  act-take_suc (a ∷ xs) zero w h =
      simp (act-cons M, act-nil M, map_nought M, iterate-zero M) (M.add_comm (M.scale a w) M.nought)
  act-take_suc (a ∷ xs) (suc j) w h =
      simp (act-cons M, act-take_suc xs j w (omega arith), M.map_add, M.map_scale, iterate-suc M, M.add_assoc)

pub value-add_at : (m xs : List ℤ) (v : ℕ) (c : ℤ) → v < length xs → value_of m (set xs v (get_or xs v (pos 0) +ℤ c)) ≡ value_sum (value_of m xs) (value_multiple c (value_root m v))
value-add_at m xs v c h =
    value_of-act m (set xs v (get_or xs v (pos 0) +ℤ c))
    ∙ act-add_at (times_x m) xs v c (value_one m) h
    ∙ ap₂ value_sum (sym (value_of-act m xs)) (ap (value_multiple c) (sym (root_steps m v)))

pub value-take_suc : (m xs : List ℤ) (j : ℕ) → j < length xs → value_of m (take (suc j) xs) ≡ value_sum (value_of m (take j xs)) (value_multiple (get_or xs j (pos 0)) (value_root m j))
value-take_suc m xs j h =
    value_of-act m (take (suc j) xs)
    ∙ act-take_suc (times_x m) xs j (value_one m) h
    ∙ ap₂ value_sum (sym (value_of-act m (take j xs))) (ap (value_multiple (get_or xs j (pos 0))) (sym (root_steps m j)))

-- ---- adding lists number by number
pub plus_none : (w : List ℤ) → plus w [] ≡ w
unfolding plus
plus_none [] = refl
plus_none (a ∷ w) = refl

-- a number to which nothing was added yet
plus-at : (w t : List ℤ) (j : ℕ) → get_or (plus w (take j t)) j (pos 0) ≡ get_or w j (pos 0)
unfolding plus
plus-at w t zero = ap (λ z. get_or z 0 (pos 0)) (plus_none w)
plus-at [] [] (suc j) = refl
plus-at [] (b ∷ t) (suc j) = plus-at [] t j
plus-at (a ∷ w) [] (suc j) = refl
plus-at (a ∷ w) (b ∷ t) (suc j) = plus-at w t j

plus-step : (w t : List ℤ) (j : ℕ) → j < length t → length t ≤ length w
    → set (plus w (take j t)) j (get_or w j (pos 0) +ℤ get_or t j (pos 0)) ≡ plus w (take (suc j) t)
unfolding plus
plus-step w [] j h long = absurd (omega arith)
plus-step [] (b ∷ t) j h long = absurd (omega arith)
plus-step (a ∷ w) (b ∷ t) zero h long = ap (λ z. (a +ℤ b) ∷ z) (sym (plus_none w))
plus-step (a ∷ w) (b ∷ t) (suc j) h long = ap (λ z. (a +ℤ b) ∷ z) (plus-step w t j (omega arith) (omega arith))

scaled-at : (c : ℤ) (p : List ℤ) (j : ℕ) → j < length p → get_or (scaled c p) j (pos 0) ≡ c *ℤ get_or p j (pos 0)
unfolding scaled
scaled-at c [] j h = absurd (omega arith)
scaled-at c (a ∷ p) zero h = refl
scaled-at c (a ∷ p) (suc j) h = scaled-at c p j (omega arith)

-- ---- a loop that adds the multiple s p to w, number by number
pub read_at : (xs : List ℤ) (j : ℕ) → size_of xs < 2 ^ 126 → to_z w128 (of_z w128 (get_or xs j (pos 0))) ≡ get_or xs j (pos 0)
read_at xs j small = read_128 (get_or xs j (pos 0)) (omega (arith, size_at xs j))

pub read_8 : (z : ℤ) → nat_abs z ≤ 1 → to_z w8 (of_z w8 z) ≡ z
read_8 (pos n) h = to_z-of_z w8 (pos n) (record { sfits = omega arith })
read_8 (negsuc n) h = to_z-of_z w8 (negsuc n) (record { sfits = omega arith })

module _ (s : ℤ) (p w now : List ℤ) (j : ℕ) (small : size_of w < 2 ^ 126) (is : now ≡ plus w (take j (scaled s p))) where
  pub read_now : to_z w128 (of_z w128 (get_or now j (pos 0))) ≡ get_or w j (pos 0)
  read_now = rw (is, plus-at) (read_at w j small)

  pub small_now : nat_abs (to_z w128 (of_z w128 (get_or now j (pos 0)))) < 2 ^ 126
  small_now = rw read_now (omega (arith, size_at w j))

  pub one_added : j < length p → length p ≤ length w → (r : ℤ) → SFits w128 r
      → r ≡ to_z w128 (of_z w128 (get_or now j (pos 0))) +ℤ (s *ℤ get_or p j (pos 0))
      → set now j (to_z w128 (of_z w128 r)) ≡ plus w (take (j + 1) (scaled s p))
  one_added h long r fits e =
      let here : r ≡ get_or w j (pos 0) +ℤ get_or (scaled s p) j (pos 0) =
      e ∙ ap₂ (λ a b. a +ℤ b) read_now (sym (scaled-at s p j h)) in
      rw (to_z-of_z w128 r fits, here, is, add-one)
      (plus-step w (scaled s p) j (omega (arith, length-scaled s p)) (omega (arith, length-scaled s p)))

  -- at the end of p
  pub all_added : j ≡ length p → now ≡ plus w (scaled s p)
  all_added e = is ∙ ap (plus w) (take_all j (scaled s p) (omega (arith, length-scaled s p)))

pub sign_swaps : (s y : ℤ) → neg_ℤ y *ℤ s ≡ neg_ℤ s *ℤ y
sign_swaps s y = Z.neg_times y s ∙ ap neg_ℤ (Z.times_comm y s) ∙ sym (Z.neg_times s y)

-- ---- a step of long division: it changes all but the last number
plus-lower : (w t : List ℤ) → length w ≡ suc (length t) → plus w t ≡ plus (lower w) t ++ (leading w ∷ [])
unfolding plus lower leading
plus-lower [] t e = absurd (omega (arith, e))
plus-lower (a ∷ []) [] e = refl
plus-lower (a ∷ []) (b ∷ t) e = absurd (omega (arith, e))
plus-lower (a ∷ x ∷ w) [] e = absurd (omega (arith, e))
plus-lower (a ∷ x ∷ w) (b ∷ t) e = ap (λ z. (a +ℤ b) ∷ z) (plus-lower (x ∷ w) t (ap pred e))

last_is_leading : (w : List ℤ) (n : ℕ) → length w ≡ suc n → get_or w n (pos 0) ≡ leading w
unfolding leading
last_is_leading [] n e = absurd (omega (arith, e))
last_is_leading (a ∷ []) zero e = refl
last_is_leading (a ∷ []) (suc n) e = absurd (omega (arith, e))
last_is_leading (a ∷ b ∷ w) zero e = absurd (omega (arith, e))
last_is_leading (a ∷ b ∷ w) (suc n) e = last_is_leading (b ∷ w) n (ap pred e)

plus_nothing : (p w : List ℤ) → length p ≤ length w → plus w (scaled (pos 0) p) ≡ w
unfolding plus scaled
plus_nothing [] w h = plus_none w
plus_nothing (b ∷ p) [] h = absurd (omega arith)
plus_nothing (b ∷ p) (a ∷ w) h =
    ap₂ (λ x y. x ∷ y) (ap (λ z. a +ℤ z) (Z.zero_times b) ∙ Z.plus_zero a) (plus_nothing p w (omega arith))

module _ (low w : List ℤ) (size : length w ≡ length low + 1) where
  -- the number that is cancelled
  pub cancel_last : size_of w < 2 ^ 126 → to_z w128 (of_z w128 (get_or w (length low) (pos 0))) ≡ leading w
  cancel_last small = read_at w (length low) small ∙ last_is_leading w (length low) (size ∙ add-one (length low))

  pub leading_small : size_of w < 2 ^ 126 → nat_abs (leading w) < 2 ^ 126
  leading_small small = omega (arith, size_at w (length low), ap nat_abs (last_is_leading w (length low) (size ∙ add-one (length low))))

  pub cancels : plus w (scaled (neg_ℤ (leading w)) low) ≡ cancelled (low ++ (pos 1 ∷ [])) w ++ (leading w ∷ [])
  unfolding cancelled
  cancels =
      plus-lower w (scaled (neg_ℤ (leading w)) low) (size ∙ add-one (length low) ∙ ap suc (sym (length-scaled (neg_ℤ (leading w)) low)))
      ∙ ap (λ z. plus (lower w) (scaled (neg_ℤ (leading w)) z) ++ (leading w ∷ [])) (sym (lower-last low (pos 1)))

  pub cancel_nothing : size_of w < 2 ^ 126 → to_z w128 (of_z w128 (get_or w (length low) (pos 0))) ≡ pos 0
      → w ≡ cancelled (low ++ (pos 1 ∷ [])) w ++ (leading w ∷ [])
  cancel_nothing small e =
      let none : leading w ≡ pos 0 = sym (cancel_last small) ∙ e in
      sym (ap (λ z. plus w (scaled (neg_ℤ z) low)) none ∙ plus_nothing low w (omega (arith, size))) ∙ cancels
