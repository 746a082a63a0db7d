-- The centre of a twisted group algebra as a commutative ring: an element is its numbers at the class sums of the regular classes.
use Rattle.centre_algebra.proofs.Names.{◌≡◌, ◌≢◌, ℕ, zero, suc, ◌<◌, ◌≤◌, ◌%◌, get_or, refl, sym, ◌∙◌, ap, arith, inl, inr, ◌⊎◌, eqb-true, eqb, cases_lt, cases_eq, eq-eqb, ne_eqb, fun_ext, ap₂, CommRing, sum_below, pick, multiple, power, Below, below_equal, RootOfUnity, sum_zero, sum_suc, sum_ext, sum_add, mul_sum, sum_pick, mul_pick, pick_of, pick_off, pick_mul, pick_same, multiple_zero, multiple_suc, power_zero, power_suc, identity_of, TwistedSubgroup, size, IsTwist, regular_representatives, rank, unit_vector, twisted_product, IsCentral, class_sum, combination, HasCharacteristic, twist_ring, twist_crossed, restricted}
use Rattle.algebra.proofs.RingLaws.{mul_left_comm, one_mul, add_mul}
use Rattle.algebra.specs.Totals.{equals}
use Rattle.twisted.proofs.AlgebraLaws.{product_on_places, central_combination, combination_central, combination_unique}
use Rattle.twisted.proofs.Translation.{places, place_group}
use Rattle.twisted.proofs.RegularClasses.{representative_below_at, representative_place, regular_classes}
use Rattle.twisted.proofs.Representatives.{regular_representatives_are, rank_is}
use Rattle.twisted.proofs.Carrying.{carry, carry_one}
use Rattle.central_ext.specs.PowersOfUnits.{algebra_power}
use Rattle.splitting_theory.specs.Splitting.{IsFixed}
use Rattle.splitting_theory.specs.Algebras.{HasBasis}
use Rattle.power_theory.specs.Rings.{Ring}
use Rattle.power_theory.specs.CrossedProducts.{CrossedProduct}
use Rattle.power_theory.proofs.RingSums.{sum_holds}
use Rattle.power_theory.proofs.RingSums as any

-- r numbers as a function that is nought from r on
module _ {A : Type 0} (R : CommRing A) (r : ℕ) where
  spread_by : (Below r → A) → (i : ℕ) → (i < r) ⊎ (r ≤ i) → A
  spread_by c i (inl h) = c (record { value = i; below = h })
  spread_by c i (inr h) = R.nought

  pub spread : (Below r → A) → ℕ → A
  spread c i = spread_by c i (cases_lt i r)

  below_by : (c : Below r → A) (k : Below r) (h : (k.value < r) ⊎ (r ≤ k.value)) → spread_by c k.value h ≡ c k
  unfolding spread_by
  below_by c k (inl h) = ap c (below_equal (record { value = k.value; below = h }) k refl)
  below_by c k (inr h) = absurd (let b = k.below in omega arith)

  pub spread_at : (c : Below r → A) (k : Below r) → spread c k.value ≡ c k
  unfolding spread
  spread_at c k = below_by c k (cases_lt k.value r)

  pub spread_below : (c : Below r → A) (i : ℕ) (h : i < r) → spread c i ≡ c (record { value = i; below = h })
  spread_below c i h = spread_at c (record { value = i; below = h })

module _ {A : Type 0} (R : CommRing A) {m : ℕ} (U : RootOfUnity R m) (s : TwistedSubgroup) (twist : IsTwist s) (divides : m % s.modulus ≡ 0) where
  abbrev pub Centre : Type 0
  Centre = Below (rank s) → A

  abbrev T : Ring (Below (size s) → A)
  T = twist_ring R U s twist divides

  abbrev pub rep : ℕ → ℕ
  rep i = get_or (regular_representatives s) i 0

  pub rep_below : (i : ℕ) → rep i < size s
  rep_below i = representative_below_at s twist i

  -- the combination of the class sums with these numbers
  abbrev pub lift : Centre → ℕ → A
  lift c = combination R U s (spread R (rank s) c)

  abbrev lifted : Centre → Below (size s) → A
  lifted c = restricted R U s twist divides (lift c)

  lift_central : (c : Centre) → IsCentral R U s (lift c)
  lift_central c = combination_central R U s twist divides (spread R (rank s) c)

  -- its value at a representative is the number there
  pub lift_at : (c : Centre) (k : Below (rank s)) → lift c (rep k.value) ≡ c k
  lift_at c k = sym (combination_unique R U s twist divides (lift c) (spread R (rank s) c) (λ x h. refl) k.value k.below) ∙ spread_at R (rank s) c k

  injective : (c d : Centre) → lifted c ≡ lifted d → c ≡ d
  injective c d e = fun_ext (λ k. sym (lift_at c k) ∙ ap (λ (z : Below (size s) → A). z (record { value = rep k.value; below = rep_below k.value })) e ∙ lift_at d k)

  -- a central element is the combination with its values at the representatives
  pub lift_read : (z : ℕ → A) → IsCentral R U s z → (x : ℕ) → x < size s → lift (λ k. z (rep k.value)) x ≡ z x
  lift_read z central x h =
      sum_ext R (rank s) (λ i. R.mul (spread R (rank s) (λ k. z (rep k.value)) i) (class_sum R U s (rep i) x)) (λ i. R.mul (z (rep i)) (class_sum R U s (rep i) x))
      (λ i below. ap (λ a. R.mul a (class_sum R U s (rep i) x)) (spread_below R (rank s) (λ k. z (rep k.value)) i below))
      ∙ sym (central_combination R U s twist divides z central x h)

  lifted_read : (z : ℕ → A) → IsCentral R U s z → lifted (λ k. z (rep k.value)) ≡ restricted R U s twist divides z
  lifted_read z central = fun_ext (λ (x : Below (size s)). lift_read z central x.value x.below)

  pub product_restricted : (p r : ℕ → A) → restricted R U s twist divides (twisted_product R U s p r) ≡ T.mul (restricted R U s twist divides p) (restricted R U s twist divides r)
  product_restricted p r = fun_ext (λ x. sym (product_on_places R U s twist divides p r x))

  unit_restricted : (y : Below (size s)) → restricted R U s twist divides (unit_vector R U s y.value) ≡ (twist_crossed R U s twist divides).unit y
  unfolding equals
  unit_restricted y = refl

  commutes_unit : (z : ℕ → A) → IsCentral R U s z → (y : Below (size s)) → T.mul (restricted R U s twist divides z) ((twist_crossed R U s twist divides).unit y) ≡ T.mul ((twist_crossed R U s twist divides).unit y) (restricted R U s twist divides z)
  commutes_unit z central y =
      ap (T.mul (restricted R U s twist divides z)) (sym (unit_restricted y)) ∙ sym (product_restricted z (unit_vector R U s y.value))
      ∙ fun_ext (λ (x : Below (size s)). central.commutes y.value x.value y.below x.below)
      ∙ product_restricted (unit_vector R U s y.value) z ∙ ap (λ u. T.mul u (restricted R U s twist divides z)) (unit_restricted y)

  central_of : (z : ℕ → A) → ((y : Below (size s)) → T.mul (restricted R U s twist divides z) ((twist_crossed R U s twist divides).unit y) ≡ T.mul ((twist_crossed R U s twist divides).unit y) (restricted R U s twist divides z)) → IsCentral R U s z
  central_of z h = record {
    commutes = λ y x y_below x_below.
        let p : Below (size s) = record { value = y; below = y_below } in
        let v : Below (size s) = record { value = x; below = x_below } in
        ap (λ (f : Below (size s) → A). f v)
        (product_restricted z (unit_vector R U s y) ∙ ap (T.mul (restricted R U s twist divides z)) (unit_restricted p) ∙ h p
        ∙ ap (λ u. T.mul u (restricted R U s twist divides z)) (sym (unit_restricted p)) ∙ sym (product_restricted (unit_vector R U s y) z));
  }

  -- what commutes with the units commutes with all
  commutes_all : (z : Below (size s) → A) → ((y : Below (size s)) → T.mul z ((twist_crossed R U s twist divides).unit y) ≡ T.mul ((twist_crossed R U s twist divides).unit y) z) → (w : Below (size s) → A) → T.mul z w ≡ T.mul w z
  commutes_all z h w =
      ap (T.mul z) (K.spans w)
      ∙ sum_holds T (λ v. T.mul z v ≡ T.mul v z) (any.mul_nought T z ∙ sym (any.nought_mul T z)) (λ x y a b. T.mul_add z x y ∙ ap₂ T.add a b ∙ sym (T.add_mul x y z)) (places s twist).size
      (λ i. K.scale (K.coordinate w ((places s twist).at i)) (K.unit ((places s twist).at i)))
      (λ i. K.mul_scale (K.coordinate w ((places s twist).at i)) z (K.unit ((places s twist).at i)) ∙ ap (K.scale (K.coordinate w ((places s twist).at i))) (h ((places s twist).at i))
      ∙ sym (K.scale_mul (K.coordinate w ((places s twist).at i)) (K.unit ((places s twist).at i)) z))
      ∙ ap (λ v. T.mul v z) (sym (K.spans w))
    where
      K : CrossedProduct R (places s twist) (place_group s twist) T
      K = twist_crossed R U s twist divides

  -- the product of two central elements is central
  product_central : (p r : ℕ → A) → IsCentral R U s p → IsCentral R U s r → IsCentral R U s (twisted_product R U s p r)
  product_central p r hp hr = central_of (twisted_product R U s p r) (λ y. by (restricted R U s twist divides p) (restricted R U s twist divides r) ((twist_crossed R U s twist divides).unit y) (product_restricted p r) (commutes_unit p hp y) (commutes_unit r hr y))
    where
      by : (a b u : Below (size s) → A) {c : Below (size s) → A} → c ≡ T.mul a b → T.mul a u ≡ T.mul u a → T.mul b u ≡ T.mul u b → T.mul c u ≡ T.mul u c
      by a b u e ha hb =
          ap (λ x. T.mul x u) e ∙ T.mul_assoc a b u ∙ ap (T.mul a) hb ∙ sym (T.mul_assoc a u b) ∙ ap (λ x. T.mul x b) ha ∙ T.mul_assoc u a b ∙ ap (T.mul u) (sym e)

  -- the product, by its values at the representatives
  pub times : Centre → Centre → Centre
  times c d k = twisted_product R U s (lift c) (lift d) (rep k.value)

  lifted_times : (c d : Centre) → lifted (times c d) ≡ T.mul (lifted c) (lifted d)
  unfolding times
  lifted_times c d = lifted_read (twisted_product R U s (lift c) (lift d)) (product_central (lift c) (lift d) (lift_central c) (lift_central d)) ∙ product_restricted (lift c) (lift d)

  abbrev pub plus : Centre → Centre → Centre
  plus c d k = R.add (c k) (d k)

  pub lifted_plus : (c d : Centre) → lifted (plus c d) ≡ T.add (lifted c) (lifted d)
  lifted_plus c d = fun_ext (λ (x : Below (size s)).
      sum_ext R (rank s) (λ i. R.mul (spread R (rank s) (plus c d) i) (class_sum R U s (rep i) x.value)) (λ i. R.add (R.mul (spread R (rank s) c i) (class_sum R U s (rep i) x.value)) (R.mul (spread R (rank s) d i) (class_sum R U s (rep i) x.value)))
      (λ i h. ap (λ a. R.mul a (class_sum R U s (rep i) x.value)) (spread_below R (rank s) (plus c d) i h ∙ sym (ap₂ R.add (spread_below R (rank s) c i h) (spread_below R (rank s) d i h)))
      ∙ add_mul R (spread R (rank s) c i) (spread R (rank s) d i) (class_sum R U s (rep i) x.value))
      ∙ sum_add R (rank s) (λ i. R.mul (spread R (rank s) c i) (class_sum R U s (rep i) x.value)) (λ i. R.mul (spread R (rank s) d i) (class_sum R U s (rep i) x.value)))

  abbrev pub scaled : A → Centre → Centre
  scaled a c k = R.mul a (c k)

  lifted_scaled : (a : A) (c : Centre) → lifted (scaled a c) ≡ (twist_crossed R U s twist divides).scale a (lifted c)
  lifted_scaled a c = fun_ext (λ (x : Below (size s)).
      sum_ext R (rank s) (λ i. R.mul (spread R (rank s) (scaled a c) i) (class_sum R U s (rep i) x.value)) (λ i. R.mul a (R.mul (spread R (rank s) c i) (class_sum R U s (rep i) x.value)))
      (λ i h. ap (λ b. R.mul b (class_sum R U s (rep i) x.value)) (spread_below R (rank s) (scaled a c) i h ∙ ap (R.mul a) (sym (spread_below R (rank s) c i h)))
      ∙ R.mul_assoc a (spread R (rank s) c i) (class_sum R U s (rep i) x.value))
      ∙ sym (mul_sum R (rank s) a (λ i. R.mul (spread R (rank s) c i) (class_sum R U s (rep i) x.value))))

  -- u_e
  pub unit : Centre
  unit k = unit_vector R U s (identity_of s.group) (rep k.value)

  one_central : IsCentral R U s (unit_vector R U s (identity_of s.group))
  one_central = central_of (unit_vector R U s (identity_of s.group)) (λ y. by ((twist_crossed R U s twist divides).unit y) (unit_restricted (place_group s twist).one))
    where
      by : (u : Below (size s) → A) {e : Below (size s) → A} → e ≡ T.one → T.mul e u ≡ T.mul u e
      by u h = ap (λ x. T.mul x u) h ∙ T.one_mul u ∙ sym (T.mul_one u) ∙ ap (T.mul u) (sym h)

  lifted_unit : lifted unit ≡ T.one
  unfolding unit
  lifted_unit = lifted_read (unit_vector R U s (identity_of s.group)) one_central ∙ unit_restricted (place_group s twist).one

  pub times_comm : (c d : Centre) → times c d ≡ times d c
  times_comm c d = injective (times c d) (times d c) (lifted_times c d ∙ commutes_all (lifted c) (commutes_unit (lift c) (lift_central c)) (lifted d) ∙ sym (lifted_times d c))

  pub times_assoc : (b c d : Centre) → times (times b c) d ≡ times b (times c d)
  times_assoc b c d = injective (times (times b c) d) (times b (times c d))
      (lifted_times (times b c) d ∙ ap (λ x. T.mul x (lifted d)) (lifted_times b c) ∙ T.mul_assoc (lifted b) (lifted c) (lifted d) ∙ ap (T.mul (lifted b)) (sym (lifted_times c d)) ∙ sym (lifted_times b (times c d)))

  pub times_unit : (c : Centre) → times c unit ≡ c
  times_unit c = injective (times c unit) c (lifted_times c unit ∙ ap (T.mul (lifted c)) lifted_unit ∙ T.mul_one (lifted c))

  pub times_plus : (b c d : Centre) → times b (plus c d) ≡ plus (times b c) (times b d)
  times_plus b c d = injective (times b (plus c d)) (plus (times b c) (times b d))
      (lifted_times b (plus c d) ∙ ap (T.mul (lifted b)) (lifted_plus c d) ∙ T.mul_add (lifted b) (lifted c) (lifted d) ∙ sym (lifted_plus (times b c) (times b d) ∙ ap₂ T.add (lifted_times b c) (lifted_times b d)))

  pub scaled_times : (a : A) (c d : Centre) → times (scaled a c) d ≡ scaled a (times c d)
  scaled_times a c d = injective (times (scaled a c) d) (scaled a (times c d))
      (lifted_times (scaled a c) d ∙ ap (λ x. T.mul x (lifted d)) (lifted_scaled a c) ∙ K.scale_mul a (lifted c) (lifted d) ∙ ap (K.scale a) (sym (lifted_times c d)) ∙ sym (lifted_scaled a (times c d)))
    where
      K : CrossedProduct R (places s twist) (place_group s twist) T
      K = twist_crossed R U s twist divides

  -- the centre
  abbrev pub centre_ring : CommRing Centre
  centre_ring = record {
    add = λ c d k. R.add (c k) (d k);
    nought = λ k. R.nought;
    neg = λ c k. R.neg (c k);
    mul = times;
    one = unit;
    add_assoc = λ b c d. fun_ext (λ k. R.add_assoc (b k) (c k) (d k));
    add_comm = λ c d. fun_ext (λ k. R.add_comm (c k) (d k));
    add_nought = λ c. fun_ext (λ k. R.add_nought (c k));
    add_neg = λ c. fun_ext (λ k. R.add_neg (c k));
    mul_assoc = times_assoc;
    mul_comm = times_comm;
    mul_one = times_unit;
    mul_add = times_plus;
  }

  -- sums, multiples and powers, place by place
  pub sum_at : (n : ℕ) (f : ℕ → Centre) (k : Below (rank s)) → sum_below centre_ring n f k ≡ sum_below R n (λ i. f i k)
  sum_at zero f k = ap (λ (c : Centre). c k) (sum_zero centre_ring f) ∙ sym (sum_zero R (λ i. f i k))
  sum_at (suc n) f k = ap (λ (c : Centre). c k) (sum_suc centre_ring n f) ∙ ap (λ a. R.add a (f n k)) (sum_at n f k) ∙ sym (sum_suc R n (λ i. f i k))

  pub multiple_at : (n : ℕ) (c : Centre) (k : Below (rank s)) → multiple centre_ring n c k ≡ multiple R n (c k)
  multiple_at zero c k = ap (λ (d : Centre). d k) (multiple_zero centre_ring c) ∙ sym (multiple_zero R (c k))
  multiple_at (suc n) c k = ap (λ (d : Centre). d k) (multiple_suc centre_ring n c) ∙ ap (λ a. R.add a (c k)) (multiple_at n c k) ∙ sym (multiple_suc R n (c k))

  algebra_power_zero : (z : ℕ → A) → algebra_power R U s z zero ≡ unit_vector R U s (identity_of s.group)
  unfolding algebra_power
  algebra_power_zero z = refl

  algebra_power_suc : (z : ℕ → A) (j : ℕ) → algebra_power R U s z (suc j) ≡ twisted_product R U s (algebra_power R U s z j) z
  unfolding algebra_power
  algebra_power_suc z j = refl

  lifted_power : (c : Centre) (j : ℕ) → lifted (power centre_ring c j) ≡ restricted R U s twist divides (algebra_power R U s (lift c) j)
  lifted_power c zero =
      ap lifted (power_zero centre_ring c) ∙ lifted_unit ∙ sym (ap (restricted R U s twist divides) (algebra_power_zero (lift c)) ∙ unit_restricted (place_group s twist).one)
  lifted_power c (suc j) =
      ap lifted (power_suc centre_ring c j) ∙ lifted_times (power centre_ring c j) c ∙ ap (λ x. T.mul x (lifted c)) (lifted_power c j) ∙ sym (product_restricted (algebra_power R U s (lift c) j) (lift c))
      ∙ sym (ap (restricted R U s twist divides) (algebra_power_suc (lift c) j))

  -- a power of an element of the centre is that in the algebra
  pub power_fixed : (q : ℕ) → ((z : ℕ → A) → IsCentral R U s z → (x : ℕ) → x < size s → algebra_power R U s z q x ≡ z x) → (c : Centre) → power centre_ring c q ≡ c
  power_fixed q fixed c = injective (power centre_ring c q) c (lifted_power c q ∙ fun_ext (λ (x : Below (size s)). fixed (lift c) (lift_central c) x.value x.below))

  -- the first representative is the identity
  pub rep_zero : rep 0 ≡ identity_of s.group
  rep_zero = ap (λ xs. get_or xs 0 0) (regular_representatives_are s twist)

  pub rank_positive : 0 < rank s
  rank_positive = let e = rank_is s twist in omega arith

  rep_other : (k : ℕ) → k < rank s → k ≢ 0 → rep k ≢ identity_of s.group
  rep_other k below apart e =
      apart (sym ((regular_classes s twist).apart 0 k rank_positive below (place_group s twist).one
      (below_equal (carry (place_group s twist) (place_group s twist).one (representative_place s twist 0)) (representative_place s twist k)
      (ap (λ (z : Below (size s)). z.value) (carry_one (place_group s twist) (representative_place s twist 0)) ∙ rep_zero ∙ sym e))))

  -- u_e is the first of the basis
  pub unit_at_place : (k : Below (rank s)) → unit k ≡ pick R (eqb k.value 0) R.one
  unfolding unit
  unit_at_place k = by (cases_eq k.value 0)
    where
      by : (k.value ≡ 0) ⊎ (k.value ≢ 0) → unit_vector R U s (identity_of s.group) (rep k.value) ≡ pick R (eqb k.value 0) R.one
      by (inl e) = pick_of R (eqb (rep k.value) (identity_of s.group)) R.one (eq-eqb (rep k.value) (identity_of s.group) (ap rep e ∙ rep_zero)) ∙ sym (pick_of R (eqb k.value 0) R.one (eq-eqb k.value 0 e))
      by (inr d) = pick_off R (eqb (rep k.value) (identity_of s.group)) R.one (ne_eqb (rep k.value) (identity_of s.group) (rep_other k.value k.below d)) ∙ sym (pick_off R (eqb k.value 0) R.one (ne_eqb k.value 0 d))

module _ {A : Type 0} (R : CommRing A) {m : ℕ} (U : RootOfUnity R m) (s : TwistedSubgroup) (twist : IsTwist s) (divides : m % s.modulus ≡ 0) where
  -- the t-th class sum
  abbrev pub basis_at : ℕ → Centre R U s twist divides
  basis_at t k = pick R (eqb k.value t) R.one

  -- a number of the ring
  abbrev pub number_of : A → Centre R U s twist divides
  number_of x k = R.mul x (unit R U s twist divides k)

  abbrev C : CommRing (Centre R U s twist divides)
  C = centre_ring R U s twist divides

  pub scales : (x : A) (c : Centre R U s twist divides) → C.mul (number_of x) c ≡ (λ k. R.mul x (c k))
  scales x c = scaled_times R U s twist divides x (unit R U s twist divides) c ∙ ap (scaled R U s twist divides x) (C.mul_comm (unit R U s twist divides) c ∙ times_unit R U s twist divides c)

  pub number_add : (x y : A) → number_of (R.add x y) ≡ C.add (number_of x) (number_of y)
  number_add x y = fun_ext (λ k. add_mul R x y (unit R U s twist divides k))

  pub number_mul : (x y : A) → number_of (R.mul x y) ≡ C.mul (number_of x) (number_of y)
  number_mul x y = fun_ext (λ k. R.mul_assoc x y (unit R U s twist divides k)) ∙ sym (scales x (number_of y))

  pub number_one : number_of R.one ≡ C.one
  number_one = fun_ext (λ k. one_mul R (unit R U s twist divides k))

  pub combination_at : (f : ℕ → A) (k : Below (rank s)) → sum_below C (rank s) (λ t. C.mul (number_of (f t)) (basis_at t)) k ≡ f k.value
  combination_at f k =
      sum_at R U s twist divides (rank s) (λ t. C.mul (number_of (f t)) (basis_at t)) k
      ∙ sum_ext R (rank s) (λ t. C.mul (number_of (f t)) (basis_at t) k) (λ t. pick R (eqb t k.value) (f t))
      (λ t h. ap (λ (c : Centre R U s twist divides). c k) (scales (f t) (basis_at t)) ∙ mul_pick R (eqb k.value t) (f t) R.one ∙ ap (λ a. pick R (eqb k.value t) a) (R.mul_one (f t))
      ∙ pick_same R (eqb k.value t) (eqb t k.value) (f t) (λ e. eq-eqb t k.value (sym (eqb-true k.value t e))) (λ e. eq-eqb k.value t (sym (eqb-true t k.value e))))
      ∙ sum_pick R (rank s) k.value f k.below

  -- the class sums are a basis
  abbrev pub centre_basis : HasBasis R C (rank s)
  centre_basis = record {
    of = number_of;
    of_add = number_add;
    of_mul = number_mul;
    of_one = number_one;
    at = basis_at;
    coordinate = λ c. spread R (rank s) c;
    spans = λ c. fun_ext (λ k. combination_at (spread R (rank s) c) k ∙ spread_at R (rank s) c k);
    unique = λ f i h. spread_below R (rank s) (sum_below C (rank s) (λ t. C.mul (number_of (f t)) (basis_at t))) i h ∙ combination_at f (record { value = i; below = h });
    some = rank_positive R U s twist divides;
    first = fun_ext (λ k. sym (unit_at_place R U s twist divides k));
  }

  lift_basis : (t : ℕ) → t < rank s → restricted R U s twist divides (lift R U s twist divides (basis_at t)) ≡ restricted R U s twist divides (class_sum R U s (rep R U s twist divides t))
  lift_basis t below = fun_ext (λ (x : Below (size s)).
      sum_ext R (rank s) (λ i. R.mul (spread R (rank s) (basis_at t) i) (class_sum R U s (rep R U s twist divides i) x.value)) (λ i. pick R (eqb i t) (class_sum R U s (rep R U s twist divides i) x.value))
      (λ i h. ap (λ a. R.mul a (class_sum R U s (rep R U s twist divides i) x.value)) (spread_below R (rank s) (basis_at t) i h)
      ∙ pick_mul R (eqb i t) R.one (class_sum R U s (rep R U s twist divides i) x.value) ∙ ap (λ a. pick R (eqb i t) a) (one_mul R (class_sum R U s (rep R U s twist divides i) x.value)))
      ∙ sum_pick R (rank s) t (λ i. class_sum R U s (rep R U s twist divides i) x.value) below)

  -- the product of two class sums, at a representative
  pub basis_product : (t j : ℕ) → t < rank s → j < rank s → (k : Below (rank s))
      → C.mul (basis_at t) (basis_at j) k ≡ twisted_product R U s (class_sum R U s (rep R U s twist divides t)) (class_sum R U s (rep R U s twist divides j)) (rep R U s twist divides k.value)
  unfolding times
  basis_product t j t_below j_below k =
      ap (λ (z : Below (size s) → A). z (record { value = rep R U s twist divides k.value; below = rep_below R U s twist divides k.value }))
      (product_restricted R U s twist divides (lift R U s twist divides (basis_at t)) (lift R U s twist divides (basis_at j))
      ∙ ap₂ (λ p r. (twist_ring R U s twist divides).mul p r) (lift_basis t t_below) (lift_basis j j_below)
      ∙ sym (product_restricted R U s twist divides (class_sum R U s (rep R U s twist divides t)) (class_sum R U s (rep R U s twist divides j))))

  -- a class sum times any element, at a representative
  pub product_at : (t : ℕ) (c : Centre R U s twist divides) (k : Below (rank s)) → C.mul (basis_at t) c k ≡ sum_below R (rank s) (λ j. R.mul (spread R (rank s) c j) (C.mul (basis_at t) (basis_at j) k))
  product_at t c k =
      ap (λ (z : Centre R U s twist divides). C.mul (basis_at t) z k) (sym (centre_basis.spans c))
      ∙ ap (λ (z : Centre R U s twist divides). z k)
      (mul_sum C (rank s) (basis_at t) (λ j. C.mul (number_of (spread R (rank s) c j)) (basis_at j))
      ∙ sum_ext C (rank s) (λ j. C.mul (basis_at t) (C.mul (number_of (spread R (rank s) c j)) (basis_at j))) (λ j. C.mul (number_of (spread R (rank s) c j)) (C.mul (basis_at t) (basis_at j)))
      (λ j h. mul_left_comm C (basis_at t) (number_of (spread R (rank s) c j)) (basis_at j)))
      ∙ sum_at R U s twist divides (rank s) (λ j. C.mul (number_of (spread R (rank s) c j)) (C.mul (basis_at t) (basis_at j))) k
      ∙ sum_ext R (rank s) (λ j. C.mul (number_of (spread R (rank s) c j)) (C.mul (basis_at t) (basis_at j)) k) (λ j. R.mul (spread R (rank s) c j) (C.mul (basis_at t) (basis_at j) k))
      (λ j h. ap (λ (z : Centre R U s twist divides). z k) (scales (spread R (rank s) c j) (C.mul (basis_at t) (basis_at j))))

  -- each element is its own q-th power
  pub centre_fixed : (q : ℕ) → 1 < q → R.one ≢ R.nought → HasCharacteristic R q → ((z : ℕ → A) → IsCentral R U s z → (x : ℕ) → x < size s → algebra_power R U s z q x ≡ z x) → IsFixed C q
  centre_fixed q over one_there characteristic fixed = record {
    over_one = over;
    one_there = λ e. one_there (sym (unit_at_place R U s twist divides (record { value = 0; below = rank_positive R U s twist divides }) ∙ pick_of R (eqb 0 0) R.one (eq-eqb 0 0 refl)) ∙ ap (λ (z : Centre R U s twist divides). z (record { value = 0; below = rank_positive R U s twist divides })) e);
    vanish = fun_ext (λ k. multiple_at R U s twist divides q C.one k ∙ characteristic.vanishes (unit R U s twist divides k));
    cancel = λ n x positive below e. fun_ext (λ k. characteristic.cancels n (x k) positive below (sym (multiple_at R U s twist divides n x k) ∙ ap (λ (z : Centre R U s twist divides). z k) e));
    fixed = power_fixed R U s twist divides q fixed;
  }
