-- The minimal polynomial of a class sum, and its roots.
use Rattle.minimal_polynomials.proofs.Names.{◌≡◌, ℕ, zero, suc, ◌-◌, ◌%◌, ◌<◌, true, List, [], ◌∷◌, map, length, get_or, refl, sym, ◌∙◌, ap, arith, mod-eq_of_lt, length-map, fun_ext, ap₂, CommRing, sum_below, power, Below, below_equal, RootOfUnity, mul_left_comm, sum_zero, sum_ext, sum_first, mul_sum, power_zero, power_suc, passing_below, ModRing, is_modulus, field, field_residue, is_root, modulus_over_one, AreBelow, value, AllNought, value_nil, value_cons, residue_field, residues_apart, coefficient_nought, roots_are, value_nought, IsFixed, ZeroTest, number, HasBasis, of_number, TwistedSubgroup, size, rank, regular_sum, Centre, rep, rep_below, lift, lift_at, algebra_power, polynomial_at, IsNoughtAt, Serves, IsMinimalOfClass}
use Rattle.centre_algebra.proofs.CharacterLists as lists
use Rattle.minimal_polynomials.proofs.Annihilators.{last_or, annihilator, annihilates, annihilator_monic, annihilator_least, roots_of_least}
use Rattle.minimal_polynomials.proofs.CentralPolynomials.{lift_power, lift_combined, lift_nought}

-- a polynomial by Horner is the sum of its terms
module _ {B : Type 0} (Z : CommRing B) (of : ℕ → B) (k : B) where
  value_is_sum : (f : List ℕ) → value Z (map of f) k ≡ sum_below Z (length f) (λ j. Z.mul (of (get_or f j 0)) (power Z k j))
  value_is_sum [] = value_nil Z k ∙ sym (sum_zero Z (λ j. Z.mul (of (get_or [] j 0)) (power Z k j)))
  value_is_sum (c ∷ f) =
      value_cons Z (of c) (map of f) k
      ∙ ap₂ Z.add (sym (Z.mul_one (of c)) ∙ ap (Z.mul (of c)) (sym (power_zero Z k)))
      (ap (Z.mul k) (value_is_sum f) ∙ mul_sum Z (length f) k (λ j. Z.mul (of (get_or f j 0)) (power Z k j))
      ∙ sum_ext Z (length f) (λ j. Z.mul k (Z.mul (of (get_or f j 0)) (power Z k j))) (λ j. Z.mul (of (get_or (c ∷ f) (suc j) 0)) (power Z k (suc j)))
      (λ j h. mul_left_comm Z k (of (get_or f j 0)) (power Z k j) ∙ ap (Z.mul (of (get_or f j 0))) (Z.mul_comm k (power Z k j) ∙ sym (power_suc Z k j))))
      ∙ sym (sum_first Z (length f) (λ j. Z.mul (of (get_or (c ∷ f) j 0)) (power Z k j)))

map_twice : {X Y W : Type 0} (g : Y → W) (h : X → Y) (xs : List X) → map g (map h xs) ≡ map (λ x. g (h x)) xs
map_twice g h [] = refl
map_twice g h (x ∷ xs) = ap (λ ys. g (h x) ∷ ys) (map_twice g h xs)

-- the last of a list of values
last_value : {X : Type 0} (g : X → ℕ) (c : X) (xs : List X) → 0 < length xs → get_or (map g xs) (length xs - 1) 0 ≡ g (last_or c xs)
unfolding last_or
last_value g c [] some = absurd (omega arith)
last_value g c (x ∷ []) some = refl
last_value g c (x ∷ y ∷ xs) some =
    let next : length (x ∷ y ∷ xs) - 1 ≡ suc (length (y ∷ xs) - 1) = omega arith in
    ap (λ n. get_or (map g (x ∷ y ∷ xs)) n 0) next ∙ last_value g x (y ∷ xs) (omega arith)

module _ (q : ℕ) (listed : is_modulus q ≡ true) where
  abbrev of : ℕ → Below q
  of v = field_residue q listed v

  all_nought_of : (p : List (Below q)) → ((k : ℕ) → k < length (map (λ c. c.value) p) → get_or (map (λ c. c.value) p) k 0 % q ≡ 0) → AllNought (field q listed) p
  unfolding AllNought
  all_nought_of [] h = tt
  all_nought_of (a ∷ p) h = (value_nought q listed a (sym (mod-eq_of_lt a.below) ∙ h 0 (omega arith)), all_nought_of p (λ k less. h (suc k) (omega arith)))

  residues_of_values : (p : List (Below q)) → map of (map (λ c. c.value) p) ≡ p
  residues_of_values [] = refl
  residues_of_values (a ∷ p) = ap₂ (λ b r. b ∷ r) (below_equal (of a.value) a (mod-eq_of_lt a.below)) (residues_of_values p)

  values_below : (p : List (Below q)) → AreBelow q (map (λ c. c.value) p)
  values_below [] k less = absurd (omega arith)
  values_below (a ∷ p) zero less = a.below
  values_below (a ∷ p) (suc k) less = values_below p k (omega arith)

module _ (ring : ModRing) (s : TwistedSubgroup) (serves : Serves ring s) (t : ℕ) (t_below : t < rank s) where
  abbrev R : CommRing (Below ring.q)
  R = field ring.q ring.listed

  abbrev divides : ring.conductor % s.modulus ≡ 0
  divides = lists.divides ring s serves.twist serves.over serves.period

  abbrev U : RootOfUnity R ring.conductor
  U = lists.U ring s serves.twist serves.over serves.period

  abbrev C : CommRing (Centre R U s serves.twist divides)
  C = lists.C ring s serves.twist serves.over serves.period

  abbrev E : HasBasis R C (rank s)
  E = lists.E ring s serves.twist serves.over serves.period

  abbrev I : IsFixed C ring.q
  I = lists.fixed ring s serves.twist serves.over serves.period

  abbrev N : ZeroTest C
  N = lists.nought_test ring s serves.twist serves.over serves.period

  abbrev residue_at : ℕ → Below ring.q
  residue_at v = field_residue ring.q ring.listed v

  abbrev number_at : List (Below ring.q) → List ℕ
  number_at p = map (λ c. c.value) p

  residue_number : (v : ℕ) → E.of (residue_at v) ≡ number C v
  residue_number v = ap E.of (sym (lists.number_residue ring.q ring.listed v)) ∙ of_number R C (rank s) E v

  -- the polynomial at the class sum, in the centre
  abbrev at_class : List (Below ring.q) → Centre R U s serves.twist divides
  at_class p = value C (map E.of p) (E.at t)

  at_class_is : (f : List ℕ) (x : ℕ) → x < size s → lift R U s serves.twist divides (at_class (map residue_at f)) x ≡ polynomial_at ring s f (regular_sum R U s t) x
  at_class_is f x below =
      ap (λ c. lift R U s serves.twist divides c x) (ap (λ p. value C p (E.at t)) (map_twice E.of residue_at f) ∙ value_is_sum C (λ v. E.of (residue_at v)) (E.at t) f)
      ∙ lift_combined R U s serves.twist divides (length f) (λ j. residue_at (get_or f j 0)) (λ j. power C (E.at t) j) x
      ∙ sum_ext R (length f) (λ j. R.mul (residue_at (get_or f j 0)) (lift R U s serves.twist divides (power C (E.at t) j) x))
      (λ j. R.mul (residue_at (get_or f j 0)) (algebra_power R U s (regular_sum R U s t) j x))
      (λ j h. ap (R.mul (residue_at (get_or f j 0))) (lift_power R U s serves.twist divides t t_below j x below))

  nought_in_centre : (f : List ℕ) → IsNoughtAt ring s f (regular_sum R U s t) → at_class (map residue_at f) ≡ C.nought
  nought_in_centre f h = fun_ext (λ k.
      sym (lift_at R U s serves.twist divides (at_class (map residue_at f)) k)
      ∙ at_class_is f (rep R U s serves.twist divides k.value) (rep_below R U s serves.twist divides k.value)
      ∙ h (rep R U s serves.twist divides k.value) (rep_below R U s serves.twist divides k.value))

  nought_in_algebra : (f : List ℕ) → at_class (map residue_at f) ≡ C.nought → IsNoughtAt ring s f (regular_sum R U s t)
  nought_in_algebra f e = λ x below. sym (at_class_is f x below) ∙ ap (λ c. lift R U s serves.twist divides c x) e ∙ lift_nought R U s serves.twist divides x

  of_residues : (p : List (Below ring.q)) → at_class p ≡ C.nought → IsNoughtAt ring s (number_at p) (regular_sum R U s t)
  of_residues p e = nought_in_algebra (number_at p) (ap at_class (residues_of_values ring.q ring.listed p) ∙ e)

  one_is_one : 1 % ring.q ≡ 1
  one_is_one = mod-eq_of_lt (modulus_over_one ring.q ring.listed)

  -- the minimal polynomial has as many roots as its degree
  pub splits : (f : List ℕ) → IsMinimalOfClass ring s t f → length (passing_below ring.q (is_root ring.q f)) ≡ length f - 1
  splits f m =
      let count : suc (length (passing_below ring.q (λ v. (residue_field ring.q ring.listed).is_nought (value R (map residue_at f) (residue_at v))))) ≡ length (map residue_at f) =
      roots_of_least R (residue_field ring.q ring.listed) C N E ring.q I residue_at residue_number (residues_apart ring.q ring.listed) (E.at t) (map residue_at f)
      (λ all. (let none = coefficient_nought ring.q ring.listed f all (length f - 1) (let some = m.some in omega arith) in
      absurd (let wrong : 1 ≡ 0 = sym one_is_one ∙ ap (λ n. n % ring.q) (sym m.monic) ∙ none in omega arith)))
      (nought_in_centre f m.nought)
      (λ g less h. all_nought_of ring.q ring.listed g
      (m.least (number_at g) (let a = length-map g (λ (c : Below ring.q). c.value) in let b = length-map f residue_at in omega arith) (of_residues g h))) in
      let same = ap (λ (xs : List ℕ). length xs) (roots_are ring.q ring.listed ring.q f) in
      let size_of = length-map f residue_at in
      omega arith

  -- the product of x - v over the numbers v by which the class sum multiplies something
  abbrev least_polynomial : List (Below ring.q)
  least_polynomial = annihilator R (residue_field ring.q ring.listed) C N E ring.q I residue_at residue_number (residues_apart ring.q ring.listed) (E.at t) ring.q

  least_monic : last_or R.nought least_polynomial ≡ R.one
  least_monic = annihilator_monic R (residue_field ring.q ring.listed) C N E ring.q I residue_at residue_number (residues_apart ring.q ring.listed) (E.at t)

  some_by_last : (p : List (Below ring.q)) → last_or R.nought p ≡ R.one → 0 < length p
  unfolding last_or
  some_by_last [] e = absurd ((residue_field ring.q ring.listed).one_is_not_nought (sym e))
  some_by_last (c ∷ p) e = omega arith

  pub there : (f : List ℕ) × IsMinimalOfClass ring s t f
  there =
      let some : 0 < length least_polynomial = some_by_last least_polynomial least_monic in
      let count : length (number_at least_polynomial) ≡ length least_polynomial = length-map least_polynomial (λ (c : Below ring.q). c.value) in (
        number_at least_polynomial,
        record {
          below = values_below ring.q ring.listed least_polynomial;
          some = omega arith;
          monic =
              ap (λ n. get_or (number_at least_polynomial) (n - 1) 0) count ∙ last_value (λ (c : Below ring.q). c.value) R.nought least_polynomial some
              ∙ ap (λ (c : Below ring.q). c.value) least_monic ∙ one_is_one;
          nought = of_residues least_polynomial (annihilates R (residue_field ring.q ring.listed) C N E ring.q I residue_at residue_number (residues_apart ring.q ring.listed) (E.at t));
          least = λ g less h. coefficient_nought ring.q ring.listed g
              (annihilator_least R (residue_field ring.q ring.listed) C N E ring.q I residue_at residue_number (residues_apart ring.q ring.listed) (E.at t) (map residue_at g)
              (let a = length-map g residue_at in omega arith) (nought_in_centre g h));
        },
      )
