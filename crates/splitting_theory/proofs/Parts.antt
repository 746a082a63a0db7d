-- The parts of an idempotent at the numbers: what each is, and that they add up to it.
use Rattle.splitting_theory.proofs.Names.{◌≡◌, ℕ, zero, suc, ◌+◌, ◌-◌, ◌<◌, refl, sym, ◌∙◌, ap, arith, add-zero, zero-add, ap₂, CommRing, sum_below, multiple, power, ring_rules, sum_rules, nought_add, mul_nought, nought_mul, one_mul, add_cancel, add_mul, mul_add, mul_left_comm, add_fixed, mul_neg, neg_mul, neg_nought, neg_neg, add_neg_add, sum_ext, sum_add, sum_neg, sum_mul, sum_constant, multiple_one, multiple_suc, multiple_is_mul, mul_multiple, multiple_add, power_zero, power_suc, IsFixed, number, horner, part}
use Rattle.splitting_theory.proofs.PowerSums.{power_sum, power_sum_vanishes, power_sum_last}

module _ {B : Type 0} (Z : CommRing B) where
  pub horner_zero : (k v e : B) → horner Z k v e zero ≡ Z.nought
  unfolding horner
  horner_zero k v e = refl

  pub horner_suc : (k v e : B) (n : ℕ) → horner Z k v e (suc n) ≡ Z.add (Z.mul v (horner Z k v e n)) (Z.mul (power Z k n) e)
  unfolding horner
  horner_suc k v e n = refl

  pub horner_one : (k v e : B) → horner Z k v e 1 ≡ e
  horner_one k v e = horner_suc k v e zero ∙ simp (horner_zero, mul_nought, nought_add, power_zero, one_mul)

  pub part_is : (q : ℕ) (k e : B) (v : ℕ) → part Z q k e v ≡ Z.add e (Z.neg (horner Z k (number Z v) e q))
  unfolding part
  part_is q k e v = refl

  telescope_step : (k v h a b e : B) → Z.add (Z.mul k h) (Z.mul a e) ≡ Z.add (Z.mul v h) (Z.mul b e)
      → Z.add (Z.mul k (Z.add (Z.mul v h) (Z.mul b e))) (Z.mul (Z.mul a v) e) ≡ Z.add (Z.mul v (Z.add (Z.mul v h) (Z.mul b e))) (Z.mul (Z.mul b k) e)
  telescope_step k v h a b e i =
      left ∙ ap (λ x. Z.add (Z.mul v x) (Z.mul (Z.mul b k) e)) i
    where
      left : Z.add (Z.mul k (Z.add (Z.mul v h) (Z.mul b e))) (Z.mul (Z.mul a v) e) ≡ Z.add (Z.mul v (Z.add (Z.mul k h) (Z.mul a e))) (Z.mul (Z.mul b k) e)
      left = simp (ring_rules, Z)

  -- k h + v^n e = v h + k^n e, for the sum h of n terms
  pub telescopes : (k v e : B) (n : ℕ) → Z.add (Z.mul k (horner Z k v e n)) (Z.mul (power Z v n) e) ≡ Z.add (Z.mul v (horner Z k v e n)) (Z.mul (power Z k n) e)
  telescopes k v e zero = simp (horner_zero, power_zero, mul_nought)
  telescopes k v e (suc n) =
      simp (horner_suc, power_suc) (telescope_step k v (horner Z k v e n) (power Z v n) (power Z k n) e (telescopes k v e n))

  -- the sum within e
  pub horner_within : (k v e f : B) (n : ℕ) → Z.mul e f ≡ e → Z.mul (horner Z k v e n) f ≡ horner Z k v e n
  horner_within k v e f zero h = simp (horner_zero, nought_mul)
  horner_within k v e f (suc n) h = simp (horner_suc, add_mul, Z.mul_assoc, horner_within k v e f n h, h)

  -- powers of k act on p as those of v, where k does
  pub power_acts : (k v p : B) (n : ℕ) → Z.mul k p ≡ Z.mul v p → Z.mul (power Z k n) p ≡ Z.mul (power Z v n) p
  power_acts k v p zero h = simp power_zero
  power_acts k v p (suc n) h =
      simp (power_suc, Z.mul_assoc) (ap (λ a. Z.mul (power Z k n) a) h ∙ mul_left_comm Z (power Z k n) v p ∙ ap (λ a. Z.mul v a) (power_acts k v p n h) ∙ mul_left_comm Z v (power Z v n) p)

  -- on what k multiplies by v, the sum of n + 1 terms is (n + 1) v^n
  pub horner_acts : (k v e p : B) (n : ℕ) → Z.mul k p ≡ Z.mul v p → Z.mul e p ≡ p → Z.mul (horner Z k v e (suc n)) p ≡ Z.mul (multiple Z (suc n) (power Z v n)) p
  horner_acts k v e p zero h i = ap (λ a. Z.mul a p) (horner_one k v e) ∙ i ∙ sym (ap (λ a. Z.mul a p) (multiple_one Z (power Z v zero) ∙ power_zero Z v) ∙ one_mul Z p)
  horner_acts k v e p (suc n) h i =
      ap (λ a. Z.mul a p) (horner_suc k v e (suc n)) ∙ add_mul Z (Z.mul v (horner Z k v e (suc n))) (Z.mul (power Z k (suc n)) e) p
      ∙ ap₂ Z.add
      (Z.mul_assoc v (horner Z k v e (suc n)) p ∙ ap (λ a. Z.mul v a) (horner_acts k v e p n h i) ∙ sym (Z.mul_assoc v (multiple Z (suc n) (power Z v n)) p)
      ∙ ap (λ a. Z.mul a p) (mul_multiple Z (suc n) v (power Z v n) ∙ ap (λ a. multiple Z (suc n) a) (Z.mul_comm v (power Z v n) ∙ sym (power_suc Z v n))))
      (Z.mul_assoc (power Z k (suc n)) e p ∙ ap (λ a. Z.mul (power Z k (suc n)) a) i ∙ power_acts k v p (suc n) h)
      ∙ sym (add_mul Z (multiple Z (suc n) (power Z v (suc n))) (power Z v (suc n)) p) ∙ ap (λ a. Z.mul a p) (sym (multiple_suc Z (suc n) (power Z v (suc n))))

module _ {B : Type 0} (Z : CommRing B) (q : ℕ) (I : IsFixed Z q) where
  -- q copies of anything are nought
  pub multiple_vanishes : (x : B) → multiple Z q x ≡ Z.nought
  multiple_vanishes x = multiple_is_mul Z q x ∙ ap (λ a. Z.mul a x) I.vanish ∙ nought_mul Z x

  -- a multiple as a product with a number
  pub number_mul : (n : ℕ) (x : B) → Z.mul (number Z n) x ≡ multiple Z n x
  number_mul n x = sym (multiple_is_mul Z n x)

  around : (a b c n : B) → Z.add (Z.add a b) (Z.add c n) ≡ Z.add a (Z.add n (Z.add b c))
  around a b c n = simp (sum_rules, Z)

  cancels : (a b c : B) → Z.add (Z.add a b) (Z.add c (Z.neg a)) ≡ Z.add b c
  cancels a b c = around a b c (Z.neg a) ∙ add_neg_add Z a (Z.add b c)

  acts_step : (k v e h : B) → Z.add (Z.mul k h) (Z.mul v e) ≡ Z.add (Z.mul v h) (Z.mul k e) → Z.mul k (Z.add e (Z.neg h)) ≡ Z.mul v (Z.add e (Z.neg h))
  acts_step k v e h i =
      add_cancel Z (Z.add (Z.mul k h) (Z.mul v h)) (Z.mul k (Z.add e (Z.neg h))) (Z.mul v (Z.add e (Z.neg h)))
      (left ∙ sym i ∙ sym right)
    where
      left : Z.add (Z.add (Z.mul k h) (Z.mul v h)) (Z.mul k (Z.add e (Z.neg h))) ≡ Z.add (Z.mul v h) (Z.mul k e)
      left = ap (λ a. Z.add (Z.add (Z.mul k h) (Z.mul v h)) a) (mul_add Z k e (Z.neg h) ∙ ap (λ a. Z.add (Z.mul k e) a) (mul_neg Z k h)) ∙ cancels (Z.mul k h) (Z.mul v h) (Z.mul k e)

      right : Z.add (Z.add (Z.mul k h) (Z.mul v h)) (Z.mul v (Z.add e (Z.neg h))) ≡ Z.add (Z.mul k h) (Z.mul v e)
      right =
          ap₂ Z.add (Z.add_comm (Z.mul k h) (Z.mul v h)) (mul_add Z v e (Z.neg h) ∙ ap (λ a. Z.add (Z.mul v e) a) (mul_neg Z v h)) ∙ cancels (Z.mul v h) (Z.mul k h) (Z.mul v e)

  -- k multiplies the part at v by v
  pub part_acts : (k e : B) (v : ℕ) → Z.mul k (part Z q k e v) ≡ Z.mul (number Z v) (part Z q k e v)
  part_acts k e v =
      ap (λ a. Z.mul k a) (part_is Z q k e v)
      ∙ acts_step k (number Z v) e (horner Z k (number Z v) e q)
      (ap (λ a. Z.add (Z.mul k (horner Z k (number Z v) e q)) (Z.mul a e)) (sym (I.fixed (number Z v)))
      ∙ telescopes Z k (number Z v) e q ∙ ap (λ a. Z.add (Z.mul (number Z v) (horner Z k (number Z v) e q)) (Z.mul a e)) (I.fixed k))
      ∙ ap (λ a. Z.mul (number Z v) a) (sym (part_is Z q k e v))

  -- it is within e
  pub part_within : (k e f : B) (v : ℕ) → Z.mul e f ≡ e → Z.mul (part Z q k e v) f ≡ part Z q k e v
  part_within k e f v h =
      ap (λ a. Z.mul a f) (part_is Z q k e v)
      ∙ add_mul Z e (Z.neg (horner Z k (number Z v) e q)) f
      ∙ ap₂ Z.add h (neg_mul Z (horner Z k (number Z v) e q) f ∙ ap Z.neg (horner_within Z k (number Z v) e f q h))
      ∙ sym (part_is Z q k e v)

  -- the sum of q terms is nought on what k multiplies by v
  horner_none : (n : ℕ) → n ≡ q → (k v e p : B) → Z.mul k p ≡ Z.mul v p → Z.mul e p ≡ p → Z.mul (horner Z k v e n) p ≡ Z.nought
  horner_none zero s k v e p h i = simp (horner_zero, nought_mul)
  horner_none (suc n) s k v e p h i =
      horner_acts Z k v e p n h i ∙ ap (λ a. Z.mul a p) (ap (λ m. multiple Z m (power Z v n)) s ∙ multiple_vanishes (power Z v n)) ∙ nought_mul Z p

  -- the part at v of e, times what is within e and multiplied by v, is that
  pub part_of_part : (k e p : B) (v : ℕ) → Z.mul k p ≡ Z.mul (number Z v) p → Z.mul e p ≡ p → Z.mul (part Z q k e v) p ≡ p
  part_of_part k e p v h i =
      ap (λ a. Z.mul a p) (part_is Z q k e v)
      ∙ add_mul Z e (Z.neg (horner Z k (number Z v) e q)) p
      ∙ ap₂ Z.add i (neg_mul Z (horner Z k (number Z v) e q) p ∙ ap Z.neg (horner_none q refl k (number Z v) e p h i) ∙ neg_nought Z)
      ∙ Z.add_nought p

  pub part_idempotent : (k e : B) (v : ℕ) → Z.mul e e ≡ e → Z.mul (part Z q k e v) (part Z q k e v) ≡ part Z q k e v
  part_idempotent k e v h = part_of_part k e (part Z q k e v) v (part_acts k e v) (Z.mul_comm e (part Z q k e v) ∙ part_within k e e v h)

  -- what k multiplies by two numbers is nought
  pub apart : (k x : B) (v w : ℕ) → v < w → w < q → Z.mul k x ≡ Z.mul (number Z v) x → Z.mul k x ≡ Z.mul (number Z w) x → x ≡ Z.nought
  apart k x v w h below i j = I.cancel (w - v) x (omega arith) (omega arith) (add_fixed Z (multiple Z v x) (multiple Z (w - v) x) fixed)
    where
      whole : v + (w - v) ≡ w
      whole = omega arith

      fixed : Z.add (multiple Z v x) (multiple Z (w - v) x) ≡ multiple Z v x
      fixed = sym (multiple_add Z v (w - v) x) ∙ ap (λ m. multiple Z m x) whole ∙ sym (number_mul w x) ∙ sym j ∙ i ∙ number_mul v x

  -- what two numbers multiply alike is nought, or they are one
  pub parts_apart : (k e : B) (v w : ℕ) → v < w → w < q → Z.mul (part Z q k e v) (part Z q k e w) ≡ Z.nought
  parts_apart k e v w h below =
      apart k (Z.mul (part Z q k e v) (part Z q k e w)) v w h below
      (sym (Z.mul_assoc k (part Z q k e v) (part Z q k e w)) ∙ ap (λ a. Z.mul a (part Z q k e w)) (part_acts k e v) ∙ Z.mul_assoc (number Z v) (part Z q k e v) (part Z q k e w))
      (mul_left_comm Z k (part Z q k e v) (part Z q k e w) ∙ ap (λ a. Z.mul (part Z q k e v) a) (part_acts k e w) ∙ mul_left_comm Z (part Z q k e v) (number Z w) (part Z q k e w))

  -- what acts on e acts on its parts
  pub part_served : (c u k e : B) (v : ℕ) → Z.mul e e ≡ e → Z.mul c e ≡ Z.mul u e → Z.mul c (part Z q k e v) ≡ Z.mul u (part Z q k e v)
  part_served c u k e v h i = served c u e (part Z q k e v) (part_within k e e v h) i
    where
      served : (c u e p : B) → Z.mul p e ≡ p → Z.mul c e ≡ Z.mul u e → Z.mul c p ≡ Z.mul u p
      served c u e p w i =
          ap (λ a. Z.mul c a) (sym w) ∙ mul_left_comm Z c p e ∙ ap (λ a. Z.mul p a) i ∙ mul_left_comm Z p u e ∙ ap (λ a. Z.mul u a) w

module _ {B : Type 0} (Z : CommRing B) (q : ℕ) (I : IsFixed Z q) where
  -- the sum over all numbers v of v^m h(v), where m and one less than the number of terms of h add up to q - 1
  layer : (k e : B) → ℕ → ℕ → B
  layer k e m n = sum_below Z q (λ v. Z.mul (power Z (number Z v) m) (horner Z k (number Z v) e (suc n)))

  layer_term : (k e v : B) (m n : ℕ) → Z.mul (power Z v m) (horner Z k v e (suc (suc n))) ≡ Z.add (Z.mul (power Z v (suc m)) (horner Z k v e (suc n))) (Z.mul (power Z v m) (Z.mul (power Z k (suc n)) e))
  layer_term k e v m n =
      ap (λ a. Z.mul (power Z v m) a) (horner_suc Z k v e (suc n)) ∙ mul_add Z (power Z v m) (Z.mul v (horner Z k v e (suc n))) (Z.mul (power Z k (suc n)) e)
      ∙ ap (λ a. Z.add a (Z.mul (power Z v m) (Z.mul (power Z k (suc n)) e))) (sym (Z.mul_assoc (power Z v m) v (horner Z k v e (suc n))) ∙ ap (λ a. Z.mul a (horner Z k v e (suc n))) (sym (power_suc Z v m)))

  layer_is : (k e : B) (m n : ℕ) → suc (m + n) ≡ q → layer k e m n ≡ Z.mul (power_sum Z q (m + n)) e
  unfolding layer power_sum
  layer_is k e m zero s =
      sum_ext Z q (λ v. Z.mul (power Z (number Z v) m) (horner Z k (number Z v) e 1)) (λ v. Z.mul (power Z (number Z v) (m + zero)) e)
      (λ v h. ap₂ Z.mul (ap (λ a. power Z (number Z v) a) (sym (add-zero m))) (horner_one Z k (number Z v) e))
      ∙ sym (sum_mul Z q (λ v. power Z (number Z v) (m + zero)) e)
  layer_is k e m (suc n) s =
      sum_ext Z q (λ v. Z.mul (power Z (number Z v) m) (horner Z k (number Z v) e (suc (suc n))))
      (λ v. Z.add (Z.mul (power Z (number Z v) (suc m)) (horner Z k (number Z v) e (suc n))) (Z.mul (power Z (number Z v) m) (Z.mul (power Z k (suc n)) e))) (λ v h. layer_term k e (number Z v) m n)
      ∙ sum_add Z q (λ v. Z.mul (power Z (number Z v) (suc m)) (horner Z k (number Z v) e (suc n))) (λ v. Z.mul (power Z (number Z v) m) (Z.mul (power Z k (suc n)) e))
      ∙ ap₂ Z.add (layer_is k e (suc m) n (omega arith) ∙ ap (λ a. Z.mul (power_sum Z q a) e) (omega arith))
      (sym (sum_mul Z q (λ v. power Z (number Z v) m) (Z.mul (power Z k (suc n)) e)) ∙ ap (λ a. Z.mul a (Z.mul (power Z k (suc n)) e)) (power_sum_vanishes Z q I m (omega arith)) ∙ nought_mul Z (Z.mul (power Z k (suc n)) e))
      ∙ Z.add_nought (Z.mul (power_sum Z q (m + suc n)) e)

  total_layer : (p : ℕ) → suc p ≡ q → (k e : B) → sum_below Z q (λ v. horner Z k (number Z v) e (suc p)) ≡ Z.neg e
  unfolding layer
  total_layer p s k e =
      sum_ext Z q (λ v. horner Z k (number Z v) e (suc p)) (λ v. Z.mul (power Z (number Z v) 0) (horner Z k (number Z v) e (suc p)))
      (λ v h. sym (ap (λ a. Z.mul a (horner Z k (number Z v) e (suc p))) (power_zero Z (number Z v)) ∙ one_mul Z (horner Z k (number Z v) e (suc p))))
      ∙ layer_is k e 0 p (omega arith) ∙ ap (λ a. Z.mul a e) (ap (λ n. power_sum Z q n) (zero-add p) ∙ power_sum_last Z q I p s) ∙ neg_mul Z Z.one e ∙ ap Z.neg (one_mul Z e)

  -- the sums of q terms at all numbers add up to -e
  total_horner : (n : ℕ) → n ≡ q → (k e : B) → sum_below Z q (λ v. horner Z k (number Z v) e n) ≡ Z.neg e
  total_horner zero s k e = absurd (let h = I.over_one in omega arith)
  total_horner (suc p) s k e = total_layer p s k e

  -- the parts add up to e
  pub parts_total : (k e : B) → sum_below Z q (λ v. part Z q k e v) ≡ e
  parts_total k e =
      sum_ext Z q (λ v. part Z q k e v) (λ v. Z.add e (Z.neg (horner Z k (number Z v) e q))) (λ v h. part_is Z q k e v)
      ∙ sum_add Z q (λ v. e) (λ v. Z.neg (horner Z k (number Z v) e q))
      ∙ ap₂ Z.add (sum_constant Z q e ∙ multiple_vanishes Z q I e) (sum_neg Z q (λ v. horner Z k (number Z v) e q) ∙ ap Z.neg (total_horner q refl k e) ∙ neg_neg Z e)
      ∙ nought_add Z e
