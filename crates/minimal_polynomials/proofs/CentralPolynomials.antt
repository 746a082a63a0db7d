-- Powers of the elements of the centre, and their combinations, as elements of the twisted group algebra.
use Rattle.minimal_polynomials.proofs.Names.{◌≡◌, ℕ, zero, suc, ◌<◌, ◌%◌, refl, sym, ◌∙◌, ap, subst, eqb, fun_ext, ap₂, CommRing, sum_below, pick, power, Below, RootOfUnity, equals, ring_rules, one_mul, nought_mul, sum_ext, sum_mul, mul_sum, sum_exchange, sum_pick, sum_nought, pick_mul, power_zero, power_suc, identity_of, TwistedSubgroup, size, phase, IsTwist, rank, left_quotient, root, product_term, unit_vector, twisted_product, IsCentral, class_sum, product_on_places, product_associates, combination_central, algebra_power, Ring, twist_ring, restricted, spread, spread_below, Centre, centre_ring, rep, rep_below, lift, lift_at, lift_read, sum_at, basis_at, number_of, scales, basis_product, product_at, unit_at_place, rank_positive}

module _ {A : Type 0} (R : CommRing A) {m : ℕ} (U : RootOfUnity R m) (s : TwistedSubgroup) (twist : IsTwist s) (divides : m % s.modulus ≡ 0) where
  abbrev C : CommRing (Centre R U s twist divides)
  C = centre_ring R U s twist divides

  abbrev T : Ring (Below (size s) → A)
  T = twist_ring R U s twist divides

  abbrev on : (ℕ → A) → Below (size s) → A
  on z = restricted R U s twist divides z

  -- products of elements that agree on the places
  product_ext : (p p' r r' : ℕ → A) → ((w : ℕ) → w < size s → p w ≡ p' w) → ((w : ℕ) → w < size s → r w ≡ r' w) → (x : ℕ) → x < size s
      → twisted_product R U s p r x ≡ twisted_product R U s p' r' x
  product_ext p p' r r' hp hr x below =
      let v : Below (size s) = record { value = x; below = below } in
      sym (product_on_places R U s twist divides p r v)
      ∙ ap₂ (λ a b. T.mul a b v) (fun_ext (λ (w : Below (size s)). hp w.value w.below)) (fun_ext (λ (w : Below (size s)). hr w.value w.below))
      ∙ product_on_places R U s twist divides p' r' v

  -- the product of two central elements is central
  product_central : (p r : ℕ → A) → IsCentral R U s p → IsCentral R U s r → IsCentral R U s (twisted_product R U s p r)
  product_central p r hp hr = record {
    commutes = λ y x y_below x_below.
        let u = unit_vector R U s y in
        product_associates R U s twist divides p r u x x_below
        ∙ product_ext p p (twisted_product R U s r u) (twisted_product R U s u r) (λ w h. refl) (λ w h. hr.commutes y w y_below h) x x_below
        ∙ sym (product_associates R U s twist divides p u r x x_below)
        ∙ product_ext (twisted_product R U s p u) (twisted_product R U s u p) r r (λ w h. hp.commutes y w y_below h) (λ w h. refl) x x_below
        ∙ product_associates R U s twist divides u p r x x_below;
  }

  one_on_places : on (unit_vector R U s (identity_of s.group)) ≡ T.one
  unfolding equals
  one_on_places = refl

  one_central : IsCentral R U s (unit_vector R U s (identity_of s.group))
  one_central = record {
    commutes = λ y x y_below x_below.
        let v : Below (size s) = record { value = x; below = x_below } in
        let e = unit_vector R U s (identity_of s.group) in
        let u = unit_vector R U s y in
        sym (product_on_places R U s twist divides e u v) ∙ ap (λ z. T.mul z (on u) v) one_on_places
        ∙ ap (λ (z : Below (size s) → A). z v) (T.one_mul (on u) ∙ sym (T.mul_one (on u)))
        ∙ ap (λ z. T.mul (on u) z v) (sym one_on_places) ∙ product_on_places R U s twist divides u e v;
  }

  power_first : (z : ℕ → A) → algebra_power R U s z zero ≡ unit_vector R U s (identity_of s.group)
  unfolding algebra_power
  power_first z = refl

  power_next : (z : ℕ → A) (j : ℕ) → algebra_power R U s z (suc j) ≡ twisted_product R U s (algebra_power R U s z j) z
  unfolding algebra_power
  power_next z j = refl

  lift_central : (c : Centre R U s twist divides) → IsCentral R U s (lift R U s twist divides c)
  lift_central c = combination_central R U s twist divides (spread R (rank s) c)

  -- the class sum of a regular class
  abbrev sum_of : ℕ → ℕ → A
  sum_of i = class_sum R U s (rep R U s twist divides i)

  pub lift_basis : (t : ℕ) → t < rank s → lift R U s twist divides (basis_at R U s twist divides t) ≡ sum_of t
  lift_basis t below = fun_ext (λ x.
      sum_ext R (rank s) (λ i. R.mul (spread R (rank s) (basis_at R U s twist divides t) i) (sum_of i x)) (λ i. pick R (eqb i t) (sum_of i x))
      (λ i h. ap (λ a. R.mul a (sum_of i x)) (spread_below R (rank s) (basis_at R U s twist divides t) i h)
      ∙ pick_mul R (eqb i t) R.one (sum_of i x) ∙ ap (λ a. pick R (eqb i t) a) (one_mul R (sum_of i x)))
      ∙ sum_pick R (rank s) t (λ i. sum_of i x) below)

  sum_central : (t : ℕ) → t < rank s → IsCentral R U s (sum_of t)
  sum_central t below = subst (λ z. IsCentral R U s z) (lift_basis t below) (lift_central (basis_at R U s twist divides t))

  scaled_term : (e c k r : A) → R.mul e (R.mul (R.mul c k) r) ≡ R.mul c (R.mul e (R.mul k r))
  scaled_term e c k r = simp (ring_rules, R)

  -- the product of a combination is the combination of the products
  lift_times : (c : Centre R U s twist divides) (r : ℕ → A) (x : ℕ)
      → twisted_product R U s (lift R U s twist divides c) r x ≡ sum_below R (rank s) (λ i. R.mul (spread R (rank s) c i) (twisted_product R U s (sum_of i) r x))
  lift_times c r x =
      sum_ext R (size s) (product_term R U s (lift R U s twist divides c) r x) (λ y. sum_below R (rank s) (λ i. R.mul (spread R (rank s) c i) (product_term R U s (sum_of i) r x y)))
      (λ y h.
      ap (R.mul (root R U s (phase s y (left_quotient s y x)))) (sum_mul R (rank s) (λ i. R.mul (spread R (rank s) c i) (sum_of i y)) (r (left_quotient s y x)))
      ∙ mul_sum R (rank s) (root R U s (phase s y (left_quotient s y x))) (λ i. R.mul (R.mul (spread R (rank s) c i) (sum_of i y)) (r (left_quotient s y x)))
      ∙ sum_ext R (rank s) (λ i. R.mul (root R U s (phase s y (left_quotient s y x))) (R.mul (R.mul (spread R (rank s) c i) (sum_of i y)) (r (left_quotient s y x))))
      (λ i. R.mul (spread R (rank s) c i) (product_term R U s (sum_of i) r x y))
      (λ i k. scaled_term (root R U s (phase s y (left_quotient s y x))) (spread R (rank s) c i) (sum_of i y) (r (left_quotient s y x))))
      ∙ sum_exchange R (size s) (rank s) (λ y i. R.mul (spread R (rank s) c i) (product_term R U s (sum_of i) r x y))
      ∙ sum_ext R (rank s) (λ i. sum_below R (size s) (λ y. R.mul (spread R (rank s) c i) (product_term R U s (sum_of i) r x y))) (λ i. R.mul (spread R (rank s) c i) (twisted_product R U s (sum_of i) r x))
      (λ i k. sym (mul_sum R (size s) (spread R (rank s) c i) (product_term R U s (sum_of i) r x)))

  -- an element of the centre times a class sum, at a representative and everywhere
  next_at : (c : Centre R U s twist divides) (t : ℕ) → t < rank s → (k : Below (rank s))
      → C.mul c (basis_at R U s twist divides t) k ≡ twisted_product R U s (lift R U s twist divides c) (sum_of t) (rep R U s twist divides k.value)
  next_at c t t_below k =
      ap (λ (z : Centre R U s twist divides). z k) (C.mul_comm c (basis_at R U s twist divides t)) ∙ product_at R U s twist divides t c k
      ∙ sum_ext R (rank s) (λ i. R.mul (spread R (rank s) c i) (C.mul (basis_at R U s twist divides t) (basis_at R U s twist divides i) k))
      (λ i. R.mul (spread R (rank s) c i) (twisted_product R U s (sum_of i) (sum_of t) (rep R U s twist divides k.value)))
      (λ i h. ap (R.mul (spread R (rank s) c i))
      (ap (λ (z : Centre R U s twist divides). z k) (C.mul_comm (basis_at R U s twist divides t) (basis_at R U s twist divides i)) ∙ basis_product R U s twist divides i t h t_below k))
      ∙ sym (lift_times c (sum_of t) (rep R U s twist divides k.value))

  lift_next : (c : Centre R U s twist divides) (t : ℕ) → t < rank s → (x : ℕ) → x < size s
      → lift R U s twist divides (C.mul c (basis_at R U s twist divides t)) x ≡ twisted_product R U s (lift R U s twist divides c) (sum_of t) x
  lift_next c t t_below x below =
      ap (λ d. lift R U s twist divides d x) (fun_ext (λ k. next_at c t t_below k))
      ∙ lift_read R U s twist divides (twisted_product R U s (lift R U s twist divides c) (sum_of t))
      (product_central (lift R U s twist divides c) (sum_of t) (lift_central c) (sum_central t t_below)) x below

  one_times : (r : ℕ → A) (x : ℕ) → x < size s → twisted_product R U s (unit_vector R U s (identity_of s.group)) r x ≡ r x
  one_times r x below =
      let v : Below (size s) = record { value = x; below = below } in
      sym (product_on_places R U s twist divides (unit_vector R U s (identity_of s.group)) r v) ∙ ap (λ z. T.mul z (on r) v) one_on_places
      ∙ ap (λ (z : Below (size s) → A). z v) (T.one_mul (on r))

  -- u_e by its values at the representatives is one
  abbrev read_unit : Centre R U s twist divides
  read_unit k = unit_vector R U s (identity_of s.group) (rep R U s twist divides k.value)

  lift_read_unit : (x : ℕ) → x < size s → lift R U s twist divides read_unit x ≡ unit_vector R U s (identity_of s.group) x
  lift_read_unit x below = lift_read R U s twist divides (unit_vector R U s (identity_of s.group)) one_central x below

  one_is_first : C.one ≡ basis_at R U s twist divides 0
  one_is_first = fun_ext (λ k. unit_at_place R U s twist divides k)

  some_class : 0 < rank s
  some_class = rank_positive R U s twist divides

  read_unit_is_one : read_unit ≡ C.one
  read_unit_is_one =
      sym (C.mul_one read_unit) ∙ ap (C.mul read_unit) one_is_first
      ∙ fun_ext (λ k.
      next_at read_unit 0 some_class k
      ∙ product_ext (lift R U s twist divides read_unit) (unit_vector R U s (identity_of s.group)) (sum_of 0) (sum_of 0) lift_read_unit (λ w h. refl)
      (rep R U s twist divides k.value) (rep_below R U s twist divides k.value)
      ∙ one_times (sum_of 0) (rep R U s twist divides k.value) (rep_below R U s twist divides k.value)
      ∙ ap (λ (z : ℕ → A). z (rep R U s twist divides k.value)) (sym (lift_basis 0 some_class)) ∙ lift_at R U s twist divides (basis_at R U s twist divides 0) k)
      ∙ sym one_is_first

  -- a power of a class sum in the centre is that in the algebra
  pub lift_power : (t : ℕ) → t < rank s → (j x : ℕ) → x < size s
      → lift R U s twist divides (power C (basis_at R U s twist divides t) j) x ≡ algebra_power R U s (sum_of t) j x
  lift_power t t_below zero x below =
      ap (λ d. lift R U s twist divides d x) (power_zero C (basis_at R U s twist divides t) ∙ sym read_unit_is_one) ∙ lift_read_unit x below
      ∙ ap (λ (z : ℕ → A). z x) (sym (power_first (sum_of t)))
  lift_power t t_below (suc j) x below =
      ap (λ d. lift R U s twist divides d x) (power_suc C (basis_at R U s twist divides t) j) ∙ lift_next (power C (basis_at R U s twist divides t) j) t t_below x below
      ∙ product_ext (lift R U s twist divides (power C (basis_at R U s twist divides t) j)) (algebra_power R U s (sum_of t) j) (sum_of t) (sum_of t)
      (λ w h. lift_power t t_below j w h) (λ w h. refl) x below
      ∙ ap (λ (z : ℕ → A). z x) (sym (power_next (sum_of t) j))

  module _ (n : ℕ) (f : ℕ → A) (p : ℕ → Centre R U s twist divides) where
    abbrev combined : Centre R U s twist divides
    combined = sum_below C n (λ j. C.mul (number_of R U s twist divides (f j)) (p j))

    combined_at : (i : ℕ) → i < rank s → spread R (rank s) combined i ≡ sum_below R n (λ j. R.mul (f j) (spread R (rank s) (p j) i))
    combined_at i below =
        spread_below R (rank s) combined i below
        ∙ sum_at R U s twist divides n (λ j. C.mul (number_of R U s twist divides (f j)) (p j)) (record { value = i; below = below })
        ∙ sum_ext R n (λ j. C.mul (number_of R U s twist divides (f j)) (p j) (record { value = i; below = below })) (λ j. R.mul (f j) (spread R (rank s) (p j) i))
        (λ j h. ap (λ (c : Centre R U s twist divides). c (record { value = i; below = below })) (scales R U s twist divides (f j) (p j))
        ∙ ap (R.mul (f j)) (sym (spread_below R (rank s) (p j) i below)))

    -- a combination in the centre is that in the algebra
    pub lift_combined : (x : ℕ) → lift R U s twist divides combined x ≡ sum_below R n (λ j. R.mul (f j) (lift R U s twist divides (p j) x))
    lift_combined x =
        sum_ext R (rank s) (λ i. R.mul (spread R (rank s) combined i) (sum_of i x)) (λ i. sum_below R n (λ j. R.mul (R.mul (f j) (spread R (rank s) (p j) i)) (sum_of i x)))
        (λ i h. ap (λ a. R.mul a (sum_of i x)) (combined_at i h) ∙ sum_mul R n (λ j. R.mul (f j) (spread R (rank s) (p j) i)) (sum_of i x))
        ∙ sum_exchange R (rank s) n (λ i j. R.mul (R.mul (f j) (spread R (rank s) (p j) i)) (sum_of i x))
        ∙ sum_ext R n (λ j. sum_below R (rank s) (λ i. R.mul (R.mul (f j) (spread R (rank s) (p j) i)) (sum_of i x))) (λ j. R.mul (f j) (lift R U s twist divides (p j) x))
        (λ j h. sum_ext R (rank s) (λ i. R.mul (R.mul (f j) (spread R (rank s) (p j) i)) (sum_of i x)) (λ i. R.mul (f j) (R.mul (spread R (rank s) (p j) i) (sum_of i x)))
        (λ i k. R.mul_assoc (f j) (spread R (rank s) (p j) i) (sum_of i x))
        ∙ sym (mul_sum R (rank s) (f j) (λ i. R.mul (spread R (rank s) (p j) i) (sum_of i x))))

  pub lift_nought : (x : ℕ) → lift R U s twist divides C.nought x ≡ R.nought
  lift_nought x =
      sum_ext R (rank s) (λ i. R.mul (spread R (rank s) C.nought i) (sum_of i x)) (λ i. R.nought)
      (λ i h. ap (λ a. R.mul a (sum_of i x)) (spread_below R (rank s) C.nought i h) ∙ nought_mul R (sum_of i x))
      ∙ sum_nought R (rank s)
