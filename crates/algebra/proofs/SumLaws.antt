-- Laws of finite sums, picks, multiples and powers in a commutative ring.
use Rattle.algebra.proofs.Names.{◌≡◌, ℕ, zero, suc, ◌<◌, ◌≤◌, inl, inr, Bool, true, false, refl, sym, ◌∙◌, ap, arith, ◌+◌, ◌*◌, eqb-true, List, [], ◌∷◌, ◌++◌, map, range_with_len, add-one, add-zero, add-suc, suc-add, zero-mul, suc-mul, mul-zero, mul-suc, eqb, eq-eqb, ne_eqb, cases_eq, ◌&&◌, CommRing, sum_below, pick, multiple, power, sum_list}
use Rattle.algebra.proofs.RingLaws.{nought_add, mul_add, add_mul, mul_nought, nought_mul, one_mul, neg_add, neg_nought, sum_rules, product_rules, add_fixed}

-- the recursions of the definitions
module _ {A : Type 0} (R : CommRing A) where
  pub sum_zero : (f : ℕ → A) → sum_below R zero f ≡ R.nought
  unfolding sum_below
  sum_zero f = refl

  pub sum_suc : (n : ℕ) (f : ℕ → A) → sum_below R (suc n) f ≡ R.add (sum_below R n f) (f n)
  unfolding sum_below
  sum_suc n f = refl

  pub pick_true : (x : A) → pick R true x ≡ x
  unfolding pick
  pick_true x = refl

  pub pick_false : (x : A) → pick R false x ≡ R.nought
  unfolding pick
  pick_false x = refl

  pub multiple_zero : (x : A) → multiple R zero x ≡ R.nought
  unfolding multiple
  multiple_zero x = refl

  pub multiple_suc : (n : ℕ) (x : A) → multiple R (suc n) x ≡ R.add (multiple R n x) x
  unfolding multiple
  multiple_suc n x = refl

  pub power_zero : (x : A) → power R x zero ≡ R.one
  unfolding power
  power_zero x = refl

  pub power_suc : (x : A) (n : ℕ) → power R x (suc n) ≡ R.mul (power R x n) x
  unfolding power
  power_suc x n = refl

-- picks by a test
module _ {A : Type 0} (R : CommRing A) where
  pub pick_of : (b : Bool) (x : A) → b ≡ true → pick R b x ≡ x
  pick_of b x h = rw h (pick_true R x)

  pub pick_off : (b : Bool) (x : A) → b ≡ false → pick R b x ≡ R.nought
  pick_off b x h = rw h (pick_false R x)

  -- under the test, the picked element may be replaced by an equal one
  pub pick_cong : (b : Bool) (x y : A) → (b ≡ true → x ≡ y) → pick R b x ≡ pick R b y
  pick_cong true x y h = ap (λ z. pick R true z) (h refl)
  pick_cong false x y h = pick_false R x ∙ sym (pick_false R y)

  pub pick_nought : (b : Bool) → pick R b R.nought ≡ R.nought
  pick_nought true = pick_true R R.nought
  pick_nought false = pick_false R R.nought

  pub mul_pick : (b : Bool) (c x : A) → R.mul c (pick R b x) ≡ pick R b (R.mul c x)
  mul_pick true c x = simp pick_true
  mul_pick false c x = simp (pick_false, mul_nought)

  pub pick_mul : (b : Bool) (x c : A) → R.mul (pick R b x) c ≡ pick R b (R.mul x c)
  pick_mul true x c = simp pick_true
  pick_mul false x c = simp (pick_false, nought_mul)

  pub pick_pick : (b c : Bool) (x : A) → pick R b (pick R c x) ≡ pick R (b && c) x
  pick_pick true c x = simp pick_true
  pick_pick false c x = simp pick_false

  pub pick_swap : (b c : Bool) (x : A) → pick R b (pick R c x) ≡ pick R c (pick R b x)
  pick_swap true c x = simp pick_true
  pick_swap false c x = pick_false R (pick R c x) ∙ sym (ap (λ z. pick R c z) (pick_false R x) ∙ pick_nought c)

  -- two tests that agree pick the same
  pub pick_same : (b c : Bool) (x : A) → (b ≡ true → c ≡ true) → (c ≡ true → b ≡ true) → pick R b x ≡ pick R c x
  pick_same true true x p q = refl
  pick_same false false x p q = refl
  pick_same true false x p q = ap (λ b. pick R b x) (sym (p refl))
  pick_same false true x p q = ap (λ b. pick R b x) (q refl)

-- sums over the numbers below n
module _ {A : Type 0} (R : CommRing A) where
  pub sum_ext : (n : ℕ) (f g : ℕ → A) → ((i : ℕ) → i < n → f i ≡ g i) → sum_below R n f ≡ sum_below R n g
  sum_ext zero f g h = sum_zero R f ∙ sym (sum_zero R g)
  sum_ext (suc n) f g h =
      let front : sum_below R n f ≡ sum_below R n g = sum_ext n f g (λ i p. h i (omega arith)) in
      let last : f n ≡ g n = h n (omega arith) in
      simp (sum_suc, front, last)

  pub sum_nought : (n : ℕ) → sum_below R n (λ i. R.nought) ≡ R.nought
  sum_nought zero = sum_zero R (λ i. R.nought)
  sum_nought (suc n) = simp (sum_suc, sum_nought n, R.add_nought)

  pub sum_add : (n : ℕ) (f g : ℕ → A) → sum_below R n (λ i. R.add (f i) (g i)) ≡ R.add (sum_below R n f) (sum_below R n g)
  sum_add zero f g = simp (sum_zero, R.add_nought)
  sum_add (suc n) f g = simp (sum_suc, sum_add n f g, sum_rules)

  pub sum_neg : (n : ℕ) (f : ℕ → A) → sum_below R n (λ i. R.neg (f i)) ≡ R.neg (sum_below R n f)
  sum_neg zero f = simp (sum_zero, neg_nought)
  sum_neg (suc n) f = simp (sum_suc, sum_neg n f, neg_add)

  -- a constant factor goes into a sum, on either side
  pub mul_sum : (n : ℕ) (c : A) (f : ℕ → A) → R.mul c (sum_below R n f) ≡ sum_below R n (λ i. R.mul c (f i))
  mul_sum zero c f = simp (sum_zero, mul_nought)
  mul_sum (suc n) c f = simp (sum_suc, ← mul_sum n c f, mul_add)

  pub sum_mul : (n : ℕ) (f : ℕ → A) (c : A) → R.mul (sum_below R n f) c ≡ sum_below R n (λ i. R.mul (f i) c)
  sum_mul zero f c = simp (sum_zero, nought_mul)
  sum_mul (suc n) f c = simp (sum_suc, ← sum_mul n f c, add_mul)

  pub pick_sum : (n : ℕ) (b : Bool) (f : ℕ → A) → pick R b (sum_below R n f) ≡ sum_below R n (λ i. pick R b (f i))
  pick_sum n true f = simp pick_true
  pick_sum n false f = simp (pick_false, sum_nought n)

  pub sum_exchange : (n m : ℕ) (f : ℕ → ℕ → A) → sum_below R n (λ i. sum_below R m (λ j. f i j)) ≡ sum_below R m (λ j. sum_below R n (λ i. f i j))
  sum_exchange zero m f = simp (sum_zero, sum_nought m)
  sum_exchange (suc n) m f = simp (sum_suc, sum_exchange n m f, sum_add)

  pub sum_constant : (n : ℕ) (x : A) → sum_below R n (λ i. x) ≡ multiple R n x
  sum_constant zero x = simp (sum_zero, multiple_zero)
  sum_constant (suc n) x = simp (sum_suc, multiple_suc, sum_constant n x)

  -- a sum in which the test leaves nothing
  pub sum_pick_none : (n a : ℕ) (f : ℕ → A) → n ≤ a → sum_below R n (λ i. pick R (eqb i a) (f i)) ≡ R.nought
  sum_pick_none n a f h =
      sum_ext n (λ i. pick R (eqb i a) (f i)) (λ i. R.nought) (λ i p. pick_off R (eqb i a) (f i) (ne_eqb i a (λ e. omega arith))) ∙ sum_nought n

  -- a sum with one term, at a
  pub sum_pick : (n a : ℕ) (f : ℕ → A) → a < n → sum_below R n (λ i. pick R (eqb i a) (f i)) ≡ f a
  sum_pick zero a f h = absurd (omega arith)
  sum_pick (suc n) a f h = elim (cases_eq n a) [
    | inl e ↦
        let none : sum_below R n (λ i. pick R (eqb i a) (f i)) ≡ R.nought = sum_pick_none n a f (omega arith) in
        let here : pick R (eqb n a) (f n) ≡ f a = pick_of R (eqb n a) (f n) (eq-eqb n a e) ∙ ap f e in
        simp (sum_suc, none, here, nought_add)
    | inr d ↦
        let below : sum_below R n (λ i. pick R (eqb i a) (f i)) ≡ f a = sum_pick n a f (omega arith) in
        let off : pick R (eqb n a) (f n) ≡ R.nought = pick_off R (eqb n a) (f n) (ne_eqb n a d) in
        simp (sum_suc, below, off, R.add_nought)
  ]

  -- a sum along a map of the numbers below n that has an inverse there
  pub sum_reindex : (n : ℕ) (p q : ℕ → ℕ) → ((i : ℕ) → i < n → p i < n) → ((i : ℕ) → i < n → q i < n) → ((i : ℕ) → i < n → q (p i) ≡ i) → ((i : ℕ) → i < n → p (q i) ≡ i) → (f : ℕ → A) → sum_below R n (λ i. f (p i)) ≡ sum_below R n f
  sum_reindex n p q p_below q_below qp pq f =
      sum_ext n (λ i. f (p i)) (λ i. sum_below R n (λ j. pick R (eqb j (p i)) (f j))) (λ i h. sym (sum_pick n (p i) f (p_below i h)))
      ∙ sum_exchange n n (λ i j. pick R (eqb j (p i)) (f j))
      ∙ sum_ext n (λ j. sum_below R n (λ i. pick R (eqb j (p i)) (f j))) f
      (λ j h. sum_ext n (λ i. pick R (eqb j (p i)) (f j)) (λ i. pick R (eqb i (q j)) (f j))
      (λ i k. pick_same R (eqb j (p i)) (eqb i (q j)) (f j)
      (λ e. eq-eqb i (q j) (sym (qp i k) ∙ ap q (sym (eqb-true j (p i) e))))
      (λ e. eq-eqb j (p i) (sym (pq j h) ∙ ap p (sym (eqb-true i (q j) e)))))
      ∙ sum_pick n (q j) (λ i. f j) (q_below j h))

  -- a sum in two parts
  pub sum_split : (n m : ℕ) (f : ℕ → A) → sum_below R (n + m) f ≡ R.add (sum_below R n f) (sum_below R m (λ i. f (n + i)))
  sum_split n zero f = simp (add-zero, sum_zero, R.add_nought)
  sum_split n (suc m) f = simp (add-suc, sum_suc, sum_split n m f, sum_rules)

-- multiples and powers
module _ {A : Type 0} (R : CommRing A) where
  pub multiple_one : (x : A) → multiple R 1 x ≡ x
  multiple_one x = multiple_suc R 0 x ∙ simp (multiple_zero, nought_add)

  pub multiple_nought : (n : ℕ) → multiple R n R.nought ≡ R.nought
  multiple_nought n = sym (sum_constant R n R.nought) ∙ sum_nought R n

  pub multiple_of_add : (n : ℕ) (x y : A) → multiple R n (R.add x y) ≡ R.add (multiple R n x) (multiple R n y)
  multiple_of_add zero x y = simp (multiple_zero, R.add_nought)
  multiple_of_add (suc n) x y = simp (multiple_suc, multiple_of_add n x y, sum_rules)

  pub multiple_add : (n m : ℕ) (x : A) → multiple R (n + m) x ≡ R.add (multiple R n x) (multiple R m x)
  multiple_add n zero x = simp (add-zero, multiple_zero, R.add_nought)
  multiple_add n (suc m) x = simp (add-suc, multiple_suc, multiple_add n m x, R.add_assoc)

  pub multiple_multiple : (n m : ℕ) (x : A) → multiple R n (multiple R m x) ≡ multiple R (n * m) x
  multiple_multiple zero m x = simp (zero-mul, multiple_zero)
  multiple_multiple (suc n) m x = simp (multiple_suc, multiple_multiple n m x, suc-mul, multiple_add)

  pub multiple_neg : (n : ℕ) (x : A) → multiple R n (R.neg x) ≡ R.neg (multiple R n x)
  multiple_neg zero x = simp (multiple_zero, neg_nought)
  multiple_neg (suc n) x = simp (multiple_suc, multiple_neg n x, neg_add)

  -- a multiple of a product is a product with a multiple
  pub mul_multiple : (n : ℕ) (x y : A) → R.mul x (multiple R n y) ≡ multiple R n (R.mul x y)
  mul_multiple zero x y = simp (multiple_zero, mul_nought)
  mul_multiple (suc n) x y = simp (multiple_suc, mul_add, mul_multiple n x y)

  pub multiple_mul : (n : ℕ) (x y : A) → R.mul (multiple R n x) y ≡ multiple R n (R.mul x y)
  multiple_mul n x y = R.mul_comm (multiple R n x) y ∙ mul_multiple n y x ∙ ap (λ z. multiple R n z) (R.mul_comm y x)

  -- the multiple by n is the product with the whole number n of the ring
  pub multiple_is_mul : (n : ℕ) (x : A) → multiple R n x ≡ R.mul (multiple R n R.one) x
  multiple_is_mul n x = sym (multiple_mul n R.one x ∙ ap (λ z. multiple R n z) (one_mul R x))

  pub power_one : (x : A) → power R x 1 ≡ x
  power_one x = power_suc R x 0 ∙ simp (power_zero, one_mul)

  pub one_power : (n : ℕ) → power R R.one n ≡ R.one
  one_power zero = power_zero R R.one
  one_power (suc n) = simp (power_suc, one_power n, R.mul_one)

  pub power_add : (x : A) (n m : ℕ) → power R x (n + m) ≡ R.mul (power R x n) (power R x m)
  power_add x n zero = simp (add-zero, power_zero, R.mul_one)
  power_add x n (suc m) = simp (add-suc, power_suc, power_add x n m, R.mul_assoc)

  pub power_mul : (x : A) (n m : ℕ) → power R x (n * m) ≡ power R (power R x n) m
  power_mul x n zero = simp (mul-zero, power_zero)
  power_mul x n (suc m) = simp (mul-suc, power_suc, power_add, power_mul x n m)

  pub mul_power : (x y : A) (n : ℕ) → power R (R.mul x y) n ≡ R.mul (power R x n) (power R y n)
  mul_power x y zero = simp (power_zero, R.mul_one)
  mul_power x y (suc n) = simp (power_suc, mul_power x y n, product_rules, R)

-- sums of lists
module _ {A : Type 0} (R : CommRing A) where
  pub sum_list_nil : sum_list R [] ≡ R.nought
  unfolding sum_list
  sum_list_nil = refl

  pub sum_list_cons : (x : A) (xs : List A) → sum_list R (x ∷ xs) ≡ R.add x (sum_list R xs)
  unfolding sum_list
  sum_list_cons x xs = refl

  pub sum_list_append : (xs ys : List A) → sum_list R (xs ++ ys) ≡ R.add (sum_list R xs) (sum_list R ys)
  sum_list_append [] ys = simp (sum_list_nil, nought_add)
  sum_list_append (x ∷ xs) ys = simp (sum_list_cons, sum_list_append xs ys, R.add_assoc)

  pub sum_list_single : (x : A) → sum_list R (x ∷ []) ≡ x
  sum_list_single x = simp (sum_list_cons, sum_list_nil, R.add_nought)

  -- one more element at the end
  pub sum_list_push : (xs : List A) (x : A) → sum_list R (xs ++ x ∷ []) ≡ R.add (sum_list R xs) x
  sum_list_push xs x = sum_list_append xs (x ∷ []) ∙ ap (λ y. R.add (sum_list R xs) y) (sum_list_single x)

module _ {A : Type 0} (R : CommRing A) where
  -- a sum over 0 .. n - 1 that begins with its first term
  pub sum_first : (n : ℕ) (f : ℕ → A) → sum_below R (suc n) f ≡ R.add (f 0) (sum_below R n (λ i. f (suc i)))
  sum_first zero f = sum_suc R zero f ∙ simp (sum_zero, sum_rules)
  sum_first (suc n) f = sum_suc R (suc n) f ∙ ap (λ a. R.add a (f (suc n))) (sum_first n f) ∙ simp (sum_suc, R.add_assoc)

  -- the sum of the listed f a, f (a + 1), .., n of them
  pub sum_list_range : (a n : ℕ) (f : ℕ → A) → sum_list R (map f (range_with_len a n)) ≡ sum_below R n (λ i. f (a + i))
  sum_list_range a zero f = simp (sum_list_nil, sum_zero)
  sum_list_range a (suc n) f =
      sum_list_cons R (f a) (map f (range_with_len (a + 1) n)) ∙ ap (λ s. R.add (f a) s) (sum_list_range (a + 1) n f)
      ∙ sym (sum_first n (λ i. f (a + i)) ∙ simp (add-zero, add-suc, add-one, suc-add))

-- a map that respects sums goes through sums and picks
module _ {A B : Type 0} (R : CommRing A) (S : CommRing B) (h : A → B) (respects : (x y : A) → h (R.add x y) ≡ S.add (h x) (h y)) where
  pub nought_map : h R.nought ≡ S.nought
  nought_map = add_fixed S (h R.nought) (h R.nought) (sym (respects R.nought R.nought) ∙ ap h (R.add_nought R.nought))

  pub sum_map : (n : ℕ) (f : ℕ → A) → h (sum_below R n f) ≡ sum_below S n (λ i. h (f i))
  sum_map zero f = ap h (sum_zero R f) ∙ nought_map ∙ sym (sum_zero S (λ i. h (f i)))
  sum_map (suc n) f = ap h (sum_suc R n f) ∙ respects (sum_below R n f) (f n) ∙ ap (λ s. S.add s (h (f n))) (sum_map n f) ∙ sym (sum_suc S n (λ i. h (f i)))

  pub pick_map : (b : Bool) (x : A) → h (pick R b x) ≡ pick S b (h x)
  pick_map true x = ap h (pick_true R x) ∙ sym (pick_true S (h x))
  pick_map false x = ap h (pick_false R x) ∙ nought_map ∙ sym (pick_false S (h x))

  pub multiple_map : (n : ℕ) (x : A) → h (multiple R n x) ≡ multiple S n (h x)
  multiple_map n x = ap h (sym (sum_constant R n x)) ∙ sum_map n (λ i. x) ∙ sum_constant S n (h x)
