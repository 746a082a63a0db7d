-- Polynomials that are nought at an element of an algebra in which each element is its own q-th power: they are those with a root at
-- each number whose part of one isn't nought.
use Rattle.minimal_polynomials.proofs.Names.{◌≡◌, ◌≢◌, ℕ, zero, suc, ◌+◌, ◌<◌, ◌≤◌, ◌⊎◌, inl, inr, Bool, true, false, cond, List, [], ◌∷◌, map, length, length-append, add-one, refl, sym, ◌∙◌, ap, arith, cases_lt, CommRing, ring_rules, one_mul, add_mul, mul_left_comm, mul_nought, nought_mul, nought_add, mul_sum, sum_ext, sum_nought, passing_below, passing_below-passes, passing_below-fails, Field, decide, test_passes, value, AllNought, value_nil, value_cons, fewer_roots, IsFixed, ZeroTest, number, part, HasBasis, of_nought, part_acts, parts_total}

-- the last element of a list, or c where it is empty
unfoldable pub last_or : {A : Type 0} → A → List A → A
last_or c [] = c
last_or c (a ∷ f) = last_or a f

module _ {A : Type 0} (F : CommRing A) where
  -- c + (x - v) f
  unfoldable pub linear_times : A → A → List A → List A
  linear_times v c [] = c ∷ []
  linear_times v c (a ∷ f) = F.add c (F.neg (F.mul v a)) ∷ linear_times v a f

  linear_nil : (v c : A) → linear_times v c [] ≡ c ∷ []
  unfolding linear_times
  linear_nil v c = refl

  linear_cons : (v c a : A) (f : List A) → linear_times v c (a ∷ f) ≡ F.add c (F.neg (F.mul v a)) ∷ linear_times v a f
  unfolding linear_times
  linear_cons v c a f = refl

  value_step : (c v a x w : A) → F.add (F.add c (F.neg (F.mul v a))) (F.mul x (F.add a (F.mul (F.add x (F.neg v)) w))) ≡ F.add c (F.mul (F.add x (F.neg v)) (F.add a (F.mul x w)))
  value_step c v a x w = simp (ring_rules, F)

  pub value_linear : (v c : A) (f : List A) (x : A) → value F (linear_times v c f) x ≡ F.add c (F.mul (F.add x (F.neg v)) (value F f x))
  value_linear v c [] x =
      ap (λ g. value F g x) (linear_nil v c) ∙ value_cons F c [] x ∙ ap (F.add c) (ap (F.mul x) (value_nil F x) ∙ mul_nought F x)
      ∙ sym (ap (F.add c) (ap (F.mul (F.add x (F.neg v))) (value_nil F x) ∙ mul_nought F (F.add x (F.neg v))))
  value_linear v c (a ∷ f) x =
      ap (λ g. value F g x) (linear_cons v c a f) ∙ value_cons F (F.add c (F.neg (F.mul v a))) (linear_times v a f) x
      ∙ ap (λ w. F.add (F.add c (F.neg (F.mul v a))) (F.mul x w)) (value_linear v a f x) ∙ value_step c v a x (value F f x)
      ∙ ap (λ w. F.add c (F.mul (F.add x (F.neg v)) w)) (sym (value_cons F a f x))

  pub length_linear : (v c : A) (f : List A) → length (linear_times v c f) ≡ suc (length f)
  unfolding linear_times
  length_linear v c [] = refl
  length_linear v c (a ∷ f) = ap suc (length_linear v a f)

  pub last_linear : (d v c : A) (f : List A) → last_or d (linear_times v c f) ≡ last_or c f
  unfolding linear_times last_or
  last_linear d v c [] = refl
  last_linear d v c (a ∷ f) = last_linear (F.add c (F.neg (F.mul v a))) v a f

  pub last_nought : (c : A) (f : List A) → c ≡ F.nought → AllNought F f → last_or c f ≡ F.nought
  unfolding last_or AllNought
  last_nought c [] e h = e
  last_nought c (a ∷ f) e h = last_nought a f h.0 h.1

  pub all_nought : (Fd : Field F) (f : List A) → AllNought F f ⊎ (AllNought F f → ⊥)
  unfolding AllNought
  all_nought Fd [] = inl tt
  all_nought Fd (a ∷ f) = elim (decide F Fd a) [
    | inl e ↦ elim (all_nought Fd f) [ inl h ↦ inl (e, h) | inr d ↦ inr (λ h. d h.1) ]
    | inr d ↦ inr (λ h. d h.0)
  ]

module _ {A B : Type 0} (F : CommRing A) (Fd : Field F) (Z : CommRing B) (T : ZeroTest Z) {r : ℕ} (E : HasBasis F Z r) (q : ℕ) (I : IsFixed Z q) (at : ℕ → A)
    (at_is : (v : ℕ) → E.of (at v) ≡ number Z v) (apart : (i j : ℕ) → i < j → j < q → at i ≢ at j) (k : B) where
  -- the polynomial at k
  abbrev pub at_element : List A → B
  at_element f = value Z (map E.of f) k

  -- the part of one at the number v
  abbrev part_of : ℕ → B
  part_of v = part Z q k Z.one v

  -- the numbers that are roots
  abbrev pub is_root_at : List A → ℕ → Bool
  is_root_at f v = Fd.is_nought (value F f (at v))

  acts_step : (c w : A) (v : ℕ) (u p : B) → Z.mul k p ≡ Z.mul (number Z v) p → Z.mul u p ≡ Z.mul (E.of w) p → Z.mul (Z.add (E.of c) (Z.mul k u)) p ≡ Z.mul (E.of (F.add c (F.mul (at v) w))) p
  acts_step c w v u p h i =
      add_mul Z (E.of c) (Z.mul k u) p
      ∙ ap (Z.add (Z.mul (E.of c) p))
      (Z.mul_assoc k u p ∙ ap (Z.mul k) i ∙ mul_left_comm Z k (E.of w) p ∙ ap (Z.mul (E.of w)) (h ∙ ap (λ z. Z.mul z p) (sym (at_is v)))
      ∙ sym (Z.mul_assoc (E.of w) (E.of (at v)) p) ∙ ap (λ z. Z.mul z p) (Z.mul_comm (E.of w) (E.of (at v)) ∙ sym (E.of_mul (at v) w)))
      ∙ sym (add_mul Z (E.of c) (E.of (F.mul (at v) w)) p) ∙ ap (λ z. Z.mul z p) (sym (E.of_add c (F.mul (at v) w)))

  -- on what k multiplies by v, a polynomial at k is its value at v
  acts_on : (f : List A) (v : ℕ) (p : B) → Z.mul k p ≡ Z.mul (number Z v) p → Z.mul (at_element f) p ≡ Z.mul (E.of (value F f (at v))) p
  acts_on [] v p h = ap (λ z. Z.mul z p) (value_nil Z k ∙ sym (ap E.of (value_nil F (at v)) ∙ of_nought F Z r E))
  acts_on (c ∷ f) v p h =
      ap (λ z. Z.mul z p) (value_cons Z (E.of c) (map E.of f) k) ∙ acts_step c (value F f (at v)) v (at_element f) p h (acts_on f v p h)
      ∙ ap (λ w. Z.mul (E.of w) p) (sym (value_cons F c f (at v)))

  -- a number multiplies what isn't nought to nought only if it is nought
  no_divisor : (x : A) (p : B) → p ≢ Z.nought → Z.mul (E.of x) p ≡ Z.nought → x ≡ F.nought
  no_divisor x p there h = elim (decide F Fd x) [
    | inl e ↦ e
    | inr d ↦ absurd (there (own d))
  ]
    where
      own : x ≢ F.nought → p ≡ Z.nought
      own d =
          sym (one_mul Z p) ∙ ap (λ z. Z.mul z p) (sym E.of_one ∙ ap E.of (sym (F.mul_comm (Fd.inverse x) x ∙ Fd.mul_inverse x d)) ∙ E.of_mul (Fd.inverse x) x)
          ∙ Z.mul_assoc (E.of (Fd.inverse x)) (E.of x) p ∙ ap (Z.mul (E.of (Fd.inverse x))) h ∙ mul_nought Z (E.of (Fd.inverse x))

  -- a polynomial that is nought at k has a root at each number whose part isn't nought
  has_root : (f : List A) (v : ℕ) → at_element f ≡ Z.nought → part_of v ≢ Z.nought → value F f (at v) ≡ F.nought
  has_root f v h there =
      no_divisor (value F f (at v)) (part_of v) there
      (sym (acts_on f v (part_of v) (part_acts Z q I k Z.one v)) ∙ ap (λ z. Z.mul z (part_of v)) h ∙ nought_mul Z (part_of v))

  -- and a polynomial with these roots is nought at k
  nought_by_roots : (f : List A) → ((v : ℕ) → v < q → (value F f (at v) ≡ F.nought) ⊎ (part_of v ≡ Z.nought)) → at_element f ≡ Z.nought
  nought_by_roots f roots =
      sym (Z.mul_one (at_element f)) ∙ ap (Z.mul (at_element f)) (sym (parts_total Z q I k Z.one)) ∙ mul_sum Z q (at_element f) part_of
      ∙ sum_ext Z q (λ v. Z.mul (at_element f) (part_of v)) (λ v. Z.nought) (λ v below.
      acts_on f v (part_of v) (part_acts Z q I k Z.one v)
      ∙ elim (roots v below) [
        | inl e ↦ ap (λ w. Z.mul w (part_of v)) (ap E.of e ∙ of_nought F Z r E) ∙ nought_mul Z (part_of v)
        | inr e ↦ ap (Z.mul (E.of (value F f (at v)))) e ∙ mul_nought Z (E.of (value F f (at v)))
      ])
      ∙ sum_nought Z q

  -- the product of x - v over the numbers v below n whose parts aren't nought
  unfoldable pub annihilator : ℕ → List A
  annihilator zero = F.one ∷ []
  annihilator (suc n) = cond (T.is_nought (part_of n)) (annihilator n) (linear_times F (at n) F.nought (annihilator n))

  annihilator_zero : annihilator zero ≡ F.one ∷ []
  unfolding annihilator
  annihilator_zero = refl

  annihilator_same : (n : ℕ) → T.is_nought (part_of n) ≡ true → annihilator (suc n) ≡ annihilator n
  unfolding annihilator
  annihilator_same n e = ap (λ b. cond b (annihilator n) (linear_times F (at n) F.nought (annihilator n))) e

  annihilator_more : (n : ℕ) → T.is_nought (part_of n) ≡ false → annihilator (suc n) ≡ linear_times F (at n) F.nought (annihilator n)
  unfolding annihilator
  annihilator_more n e = ap (λ b. cond b (annihilator n) (linear_times F (at n) F.nought (annihilator n))) e

  monic : (n : ℕ) (c : A) → last_or c (annihilator n) ≡ F.one
  unfolding last_or
  monic zero c = ap (last_or c) annihilator_zero
  monic (suc n) c = by (T.is_nought (part_of n)) refl (λ c. monic n c)
    where
      by : (b : Bool) → T.is_nought (part_of n) ≡ b → ((c : A) → last_or c (annihilator n) ≡ F.one) → last_or c (annihilator (suc n)) ≡ F.one
      by true e before = ap (last_or c) (annihilator_same n e) ∙ before c
      by false e before = ap (last_or c) (annihilator_more n e) ∙ last_linear F c (at n) F.nought (annihilator n) ∙ before F.nought

  linear_root : (n v : ℕ) (f : List A) → value F f (at v) ≡ F.nought → value F (linear_times F (at n) F.nought f) (at v) ≡ F.nought
  linear_root n v f h =
      value_linear F (at n) F.nought f (at v) ∙ nought_add F (F.mul (F.add (at v) (F.neg (at n))) (value F f (at v)))
      ∙ ap (F.mul (F.add (at v) (F.neg (at n)))) h ∙ mul_nought F (F.add (at v) (F.neg (at n)))

  own_root : (n : ℕ) (f : List A) → value F (linear_times F (at n) F.nought f) (at n) ≡ F.nought
  own_root n f =
      value_linear F (at n) F.nought f (at n) ∙ nought_add F (F.mul (F.add (at n) (F.neg (at n))) (value F f (at n)))
      ∙ ap (λ w. F.mul w (value F f (at n))) (F.add_neg (at n)) ∙ nought_mul F (value F f (at n))

  root_or_nought : (n v : ℕ) → v < n → (value F (annihilator n) (at v) ≡ F.nought) ⊎ (part_of v ≡ Z.nought)
  root_or_nought zero v below = absurd (omega arith)
  root_or_nought (suc n) v below = by (T.is_nought (part_of n)) refl (cases_lt v n) (λ h. root_or_nought n v h)
    where
      whole : (g : List A) → annihilator (suc n) ≡ g → (value F g (at v) ≡ F.nought) ⊎ (part_of v ≡ Z.nought) → (value F (annihilator (suc n)) (at v) ≡ F.nought) ⊎ (part_of v ≡ Z.nought)
      whole g e (inl h) = inl (ap (λ f. value F f (at v)) e ∙ h)
      whole g e (inr h) = inr h

      last : n ≤ v → v ≡ n
      last h = omega arith

      by : (b : Bool) → T.is_nought (part_of n) ≡ b → (v < n) ⊎ (n ≤ v) → (v < n → (value F (annihilator n) (at v) ≡ F.nought) ⊎ (part_of v ≡ Z.nought)) → (value F (annihilator (suc n)) (at v) ≡ F.nought) ⊎ (part_of v ≡ Z.nought)
      by true e (inl h) before = whole (annihilator n) (annihilator_same n e) (before h)
      by true e (inr h) before = inr (ap (λ w. part_of w) (last h) ∙ T.passes (part_of n) e)
      by false e (inl h) before =
          whole (linear_times F (at n) F.nought (annihilator n)) (annihilator_more n e)
          (elim (before h) [ inl root ↦ inl (linear_root n v (annihilator n) root) | inr none ↦ inr none ])
      by false e (inr h) before =
          inl (ap (λ f. value F f (at v)) (annihilator_more n e) ∙ ap (λ w. value F (linear_times F (at n) F.nought (annihilator n)) (at w)) (last h) ∙ own_root n (annihilator n))

  -- what is nought at k has as many roots
  many_roots : (f : List A) → at_element f ≡ Z.nought → (n : ℕ) → length (annihilator n) ≤ suc (length (passing_below n (is_root_at f)))
  many_roots f h zero = let e = ap (λ (g : List A). length g) annihilator_zero in omega arith
  many_roots f h (suc n) = by (T.is_nought (part_of n)) (is_root_at f n) refl refl (many_roots f h n)
    where
      same : is_root_at f n ≡ false → length (passing_below (suc n) (is_root_at f)) ≡ length (passing_below n (is_root_at f))
      same e = ap (λ m. length (passing_below m (is_root_at f))) (sym (add-one n)) ∙ ap (λ (xs : List ℕ). length xs) (passing_below-fails n (is_root_at f) e)

      more : is_root_at f n ≡ true → length (passing_below (suc n) (is_root_at f)) ≡ length (passing_below n (is_root_at f)) + 1
      more e = ap (λ m. length (passing_below m (is_root_at f))) (sym (add-one n)) ∙ ap (λ (xs : List ℕ). length xs) (passing_below-passes n (is_root_at f) e) ∙ length-append (passing_below n (is_root_at f)) (n ∷ [])

      by : (b c : Bool) → T.is_nought (part_of n) ≡ b → is_root_at f n ≡ c → length (annihilator n) ≤ suc (length (passing_below n (is_root_at f))) → length (annihilator (suc n)) ≤ suc (length (passing_below (suc n) (is_root_at f)))
      by true true e d few = let a = ap (λ (g : List A). length g) (annihilator_same n e) in let b = more d in omega arith
      by true false e d few = let a = ap (λ (g : List A). length g) (annihilator_same n e) in let b = same d in omega arith
      by false true e d few =
          let a = ap (λ (g : List A). length g) (annihilator_more n e) ∙ length_linear F (at n) F.nought (annihilator n) in let b = more d in omega arith
      by false false e d few =
          absurd (let t : true ≡ false = sym (test_passes F Fd (value F f (at n)) (has_root f n h (T.fails (part_of n) e))) ∙ d in cc)

  pub annihilates : at_element (annihilator q) ≡ Z.nought
  annihilates = nought_by_roots (annihilator q) (root_or_nought q)

  pub annihilator_monic : last_or F.nought (annihilator q) ≡ F.one
  annihilator_monic = monic q F.nought

  annihilator_some : AllNought F (annihilator q) → ⊥
  annihilator_some h = Fd.one_is_not_nought (sym annihilator_monic ∙ last_nought F F.nought (annihilator q) refl h)

  -- the least polynomial that is nought at k has as many roots as its degree
  pub roots_of_least : (f : List A) → (AllNought F f → ⊥) → at_element f ≡ Z.nought → ((g : List A) → length g < length f → at_element g ≡ Z.nought → AllNought F g)
      → suc (length (passing_below q (is_root_at f))) ≡ length f
  roots_of_least f some h least = elim (cases_lt (length (annihilator q)) (length f)) [
    | inl less ↦ absurd (annihilator_some (least (annihilator q) less annihilates))
    | inr most ↦ (let few = fewer_roots F Fd q at apart f some in let many = many_roots f h q in omega arith)
  ]

  -- and the product is the least one
  pub annihilator_least : (g : List A) → length g < length (annihilator q) → at_element g ≡ Z.nought → AllNought F g
  annihilator_least g less h = elim (all_nought F Fd g) [
    | inl all ↦ all
    | inr some ↦ absurd (let few = fewer_roots F Fd q at apart g some in let many = many_roots g h q in omega arith)
  ]
