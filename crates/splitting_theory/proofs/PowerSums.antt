-- Sums of equal powers of the numbers below q, in a ring in which q copies of one are nought.
use Rattle.splitting_theory.proofs.Names.{◌≡◌, ℕ, zero, suc, ◌+◌, ◌<◌, sym, ◌∙◌, ap, arith, inl, inr, cases_lt, ap₂, CommRing, sum_below, multiple, power, ring_rules, nought_add, mul_nought, one_mul, add_cancel, mul_add, neg_unique, neg_add_self, add_fixed, mul_neg, sum_suc, sum_ext, sum_nought, sum_add, mul_sum, sum_first, sum_constant, multiple_zero, multiple_suc, multiple_is_mul, multiple_nought, multiple_mul, mul_multiple, power_zero, power_suc, power_one, multiple_one, power_add, IsFixed, number}

module _ {B : Type 0} (Z : CommRing B) where
  -- what (y+1)^(m+1) has besides y^(m+1) + (m+1) y^m
  lower : ℕ → B → B
  lower zero y = Z.nought
  lower (suc m) y = Z.add (multiple Z (suc m) (power Z y m)) (Z.add (Z.mul y (lower m y)) (lower m y))

  shift_step : (a b c l y : B) → Z.mul (Z.add a (Z.add b l)) (Z.add y Z.one) ≡ Z.add (Z.mul a y) (Z.add (Z.add (Z.mul b y) a) (Z.add b (Z.add (Z.mul y l) l)))
  shift_step a b c l y = simp (ring_rules, Z)

  shifted : (m : ℕ) (y : B) → power Z (Z.add y Z.one) (suc m) ≡ Z.add (power Z y (suc m)) (Z.add (multiple Z (suc m) (power Z y m)) (lower m y))
  unfolding lower
  shifted zero y = simp (power_one, multiple_one, power_zero, Z.add_nought)
  shifted (suc m) y =
      power_suc Z (Z.add y Z.one) (suc m) ∙ ap (λ a. Z.mul a (Z.add y Z.one)) (shifted m y)
      ∙ shift_step (power Z y (suc m)) (multiple Z (suc m) (power Z y m)) y (lower m y) y
      ∙ ap₂ Z.add (sym (power_suc Z y (suc m)))
      (ap (λ a. Z.add a (Z.add (multiple Z (suc m) (power Z y m)) (Z.add (Z.mul y (lower m y)) (lower m y))))
      (ap (λ a. Z.add a (power Z y (suc m))) (multiple_mul Z (suc m) (power Z y m) y ∙ ap (λ a. multiple Z (suc m) a) (sym (power_suc Z y m))) ∙ sym (multiple_suc Z (suc m) (power Z y (suc m)))))

module _ {B : Type 0} (Z : CommRing B) (q : ℕ) where
  -- 0^m + 1^m + .. + (q-1)^m
  unfoldable pub power_sum : ℕ → B
  power_sum m = sum_below Z q (λ v. power Z (number Z v) m)

  sum_multiple : (n c : ℕ) (f : ℕ → B) → sum_below Z n (λ v. multiple Z c (f v)) ≡ multiple Z c (sum_below Z n f)
  sum_multiple n c f = sum_ext Z n (λ v. multiple Z c (f v)) (λ v. Z.mul (multiple Z c Z.one) (f v)) (λ v h. multiple_is_mul Z c (f v)) ∙ sym (mul_sum Z n (multiple Z c Z.one) f) ∙ sym (multiple_is_mul Z c (sum_below Z n f))

  lower_term : (m j : ℕ) (y : B) → Z.mul (power Z y j) (lower Z (suc m) y)
      ≡ Z.add (multiple Z (suc m) (power Z y (j + m))) (Z.add (Z.mul (power Z y (suc j)) (lower Z m y)) (Z.mul (power Z y j) (lower Z m y)))
  unfolding lower
  lower_term m j y =
      simp (mul_add, mul_multiple, power_add, power_suc, Z.mul_assoc)

  lower_vanishes : (m j : ℕ) → ((i : ℕ) → i < j + m → power_sum i ≡ Z.nought) → sum_below Z q (λ v. Z.mul (power Z (number Z v) j) (lower Z m (number Z v))) ≡ Z.nought
  unfolding lower power_sum
  lower_vanishes zero j h = simp (mul_nought, sum_nought)
  lower_vanishes (suc m) j h =
      sum_ext Z q (λ v. Z.mul (power Z (number Z v) j) (lower Z (suc m) (number Z v)))
      (λ v. Z.add (multiple Z (suc m) (power Z (number Z v) (j + m))) (Z.add (Z.mul (power Z (number Z v) (suc j)) (lower Z m (number Z v))) (Z.mul (power Z (number Z v) j) (lower Z m (number Z v)))))
      (λ v k. lower_term m j (number Z v))
      ∙ sum_add Z q (λ v. multiple Z (suc m) (power Z (number Z v) (j + m))) (λ v. Z.add (Z.mul (power Z (number Z v) (suc j)) (lower Z m (number Z v))) (Z.mul (power Z (number Z v) j) (lower Z m (number Z v))))
      ∙ ap₂ Z.add
      (sum_multiple q (suc m) (λ v. power Z (number Z v) (j + m)) ∙ ap (λ a. multiple Z (suc m) a) (h (j + m) (omega arith)) ∙ multiple_nought Z (suc m))
      (sum_add Z q (λ v. Z.mul (power Z (number Z v) (suc j)) (lower Z m (number Z v))) (λ v. Z.mul (power Z (number Z v) j) (lower Z m (number Z v)))
      ∙ ap₂ Z.add (lower_vanishes m (suc j) (λ i k. h i (omega arith))) (lower_vanishes m j (λ i k. h i (omega arith))) ∙ Z.add_nought Z.nought)
      ∙ Z.add_nought Z.nought

  -- a sum over one more than each number, where q is nought
  sum_next : (f : ℕ → B) → f q ≡ f 0 → sum_below Z q (λ v. f (suc v)) ≡ sum_below Z q f
  sum_next f e = add_cancel Z (f 0) (sum_below Z q (λ v. f (suc v))) (sum_below Z q f) (sym (sum_first Z q f) ∙ sum_suc Z q f ∙ ap (λ a. Z.add (sum_below Z q f) a) e ∙ Z.add_comm (sum_below Z q f) (f 0))

module _ {B : Type 0} (Z : CommRing B) (q : ℕ) (I : IsFixed Z q) where
  three_sums : (f g h : ℕ → B) → sum_below Z q (λ v. Z.add (f v) (Z.add (g v) (h v))) ≡ Z.add (sum_below Z q f) (Z.add (sum_below Z q g) (sum_below Z q h))
  three_sums f g h = sum_add Z q f (λ v. Z.add (g v) (h v)) ∙ ap (λ a. Z.add (sum_below Z q f) a) (sum_add Z q g h)

  one_more : (m : ℕ) → suc m < q → ((i : ℕ) → i < m → power_sum Z q i ≡ Z.nought) → power_sum Z q m ≡ Z.nought
  unfolding power_sum
  one_more m small h =
      let y : ℕ → B = number Z in
      let none : sum_below Z q (λ v. lower Z m (y v)) ≡ Z.nought =
      sum_ext Z q (λ v. lower Z m (y v)) (λ v. Z.mul (power Z (y v) 0) (lower Z m (y v))) (λ v k. sym (ap (λ a. Z.mul a (lower Z m (y v))) (power_zero Z (y v)) ∙ one_mul Z (lower Z m (y v))))
      ∙ lower_vanishes Z q m 0 (λ i k. h i (omega arith)) in
      let whole : Z.add (sum_below Z q (λ v. power Z (y v) (suc m))) (Z.add (multiple Z (suc m) (sum_below Z q (λ v. power Z (y v) m))) Z.nought) ≡ sum_below Z q (λ v. power Z (y v) (suc m)) =
      sym (ap (λ a. Z.add (sum_below Z q (λ v. power Z (y v) (suc m))) a) (ap₂ Z.add (sum_multiple Z q q (suc m) (λ v. power Z (y v) m)) none))
      ∙ sym (three_sums (λ v. power Z (y v) (suc m)) (λ v. multiple Z (suc m) (power Z (y v) m)) (λ v. lower Z m (y v)))
      ∙ sum_ext Z q (λ v. Z.add (power Z (y v) (suc m)) (Z.add (multiple Z (suc m) (power Z (y v) m)) (lower Z m (y v)))) (λ v. power Z (y (suc v)) (suc m))
      (λ v k. sym (ap (λ a. power Z a (suc m)) (multiple_suc Z v Z.one) ∙ shifted Z m (y v)))
      ∙ sum_next Z q (λ v. power Z (y v) (suc m)) (ap (λ a. power Z a (suc m)) (I.vanish ∙ sym (multiple_zero Z Z.one))) in
      I.cancel (suc m) (sum_below Z q (λ v. power Z (y v) m)) (omega arith) small
      (sym (Z.add_nought (multiple Z (suc m) (sum_below Z q (λ v. power Z (y v) m)))) ∙ add_fixed Z (sum_below Z q (λ v. power Z (y v) (suc m))) (Z.add (multiple Z (suc m) (sum_below Z q (λ v. power Z (y v) m))) Z.nought) whole)

  up_to : (m : ℕ) → m < q → (i : ℕ) → i < m → power_sum Z q i ≡ Z.nought
  up_to zero small i h = absurd (omega arith)
  up_to (suc m) small i h = elim (cases_lt i m) [
    | inl k ↦ up_to m (omega arith) i k
    | inr k ↦ let e : i ≡ m = omega arith in ap (λ a. power_sum Z q a) e ∙ one_more m small (up_to m (omega arith))
  ]

  last_sum : (p : ℕ) → suc p ≡ q → Z.add (power_sum Z q p) Z.one ≡ Z.nought
  unfolding power_sum
  last_sum zero s = absurd (let h = I.over_one in omega arith)
  last_sum (suc p) s =
      ap (λ n. Z.add (sum_below Z n (λ v. power Z (number Z v) (suc p))) Z.one) (sym s)
      ∙ ap (λ a. Z.add a Z.one)
      (sum_first Z (suc p) (λ v. power Z (number Z v) (suc p))
      ∙ ap₂ Z.add (power_suc Z (number Z 0) p ∙ ap (λ a. Z.mul (power Z (number Z 0) p) a) (multiple_zero Z Z.one) ∙ mul_nought Z (power Z (number Z 0) p))
      (sum_ext Z (suc p) (λ v. power Z (number Z (suc v)) (suc p)) (λ v. Z.one) (λ v h. unit v (omega arith)) ∙ sum_constant Z (suc p) Z.one)
      ∙ nought_add Z (multiple Z (suc p) Z.one))
      ∙ sym (multiple_suc Z (suc p) Z.one) ∙ ap (λ n. multiple Z n Z.one) s ∙ I.vanish
    where
      unit : (v : ℕ) → suc v < q → power Z (number Z (suc v)) (suc p) ≡ Z.one
      unit v h =
          difference (power Z (number Z (suc v)) (suc p)) Z.one
          (I.cancel (suc v) (Z.add (power Z (number Z (suc v)) (suc p)) (Z.neg Z.one)) (omega arith) h
          (multiple_is_mul Z (suc v) (Z.add (power Z (number Z (suc v)) (suc p)) (Z.neg Z.one))
          ∙ mul_add Z (number Z (suc v)) (power Z (number Z (suc v)) (suc p)) (Z.neg Z.one)
          ∙ ap₂ Z.add (Z.mul_comm (number Z (suc v)) (power Z (number Z (suc v)) (suc p)) ∙ sym (power_suc Z (number Z (suc v)) (suc p)) ∙ ap (λ n. power Z (number Z (suc v)) n) s ∙ I.fixed (number Z (suc v)))
          (mul_neg Z (number Z (suc v)) Z.one ∙ ap Z.neg (Z.mul_one (number Z (suc v))))
          ∙ Z.add_neg (number Z (suc v))))
        where
          difference : (x y : B) → Z.add x (Z.neg y) ≡ Z.nought → x ≡ y
          difference x y e = sym (Z.add_nought x) ∙ ap (λ a. Z.add x a) (sym (neg_add_self Z y)) ∙ sym (Z.add_assoc x (Z.neg y) y) ∙ ap (λ a. Z.add a y) e ∙ nought_add Z y

  -- that of the powers q - 1 is -1
  pub power_sum_last : (p : ℕ) → suc p ≡ q → power_sum Z q p ≡ Z.neg Z.one
  power_sum_last p s = neg_unique Z Z.one (power_sum Z q p) (Z.add_comm Z.one (power_sum Z q p) ∙ last_sum p s)

  -- the sums of the powers below q - 1 are nought
  pub power_sum_vanishes : (m : ℕ) → suc m < q → power_sum Z q m ≡ Z.nought
  power_sum_vanishes m h = up_to (suc m) h m (omega arith)
