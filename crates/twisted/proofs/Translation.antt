-- A twist as an abstract group with a 2-cocycle: the elements of the group are the places.
use Rattle.std.proofs.Common.{◌≡◌, ℕ, zero, suc, ◌+◌, ◌-◌, ◌*◌, ◌%◌, ◌<◌, Bool, true, false, ◌&&◌, nat_eq, Option, Some, None, refl, sym, ◌∙◌, ap, arith, ◌⊎◌, inl, inr, eq-eqb, eqb-true}
use Rattle.twisted.proofs.Names.{all_below, all_below-at, all_below-suc, all_below-zero, Group, Below, below_equal, Finite, Same, IsTwoCocycle, finite_below, group_below, same_of, same_trans, same_add_right, same_mod, same_add_multiple, same_equal, product, asked, not_asked, transporter_least, conjugate_by, is_some, TwistedSubgroup, size, phase, IsTwist}
use Rattle.group_table.proofs.Square.{place_below}
pub use Rattle.classes.proofs.Carrying.{table_group}
use Rattle.classes.specs.Conjugacy.{conjugate, least_transporter}
use Rattle.twisted.specs.Regular.{kappa, is_symmetric_at, is_regular}
use Rattle.twisted.proofs.Carrying.{carry}
use Rattle.twisted.proofs.ConjugationPhases.{IsConjugationPhase, IsRegular}
use Rattle.twisted.proofs.CentreLaws.{Regularity, Transporters}

-- the difference of two exponents, with the second added again
difference_back : (n a b : ℕ) → b < n → Same n ((a + (n - b)) % n + b) a
difference_back n a b below = same_trans (same_add_right b (same_mod n (a + (n - b)))) (same_trans (same_of n (omega arith)) (same_add_multiple n a 1))

and_fails : (a b : Bool) → b ≡ true → (a && b) ≡ false → a ≡ false
and_fails false b t e = refl
and_fails true b t e = cc

-- a test that doesn't hold everywhere fails somewhere
all_below-fails_at : (n : ℕ) (test : ℕ → Bool) → all_below n test ≡ false → (i : ℕ) × (i < n) × (test i ≡ false)
all_below-fails_at zero test fails = absurd (let wrong : true ≡ false = sym (all_below-zero test) ∙ fails in cc)
all_below-fails_at (suc n) test fails = by (test n) refl (sym (all_below-suc n test) ∙ fails) (all_below-fails_at n test)
  where
    by : (b : Bool) → test n ≡ b → (all_below n test && test n) ≡ false → (all_below n test ≡ false → (i : ℕ) × (i < n) × (test i ≡ false)) → (i : ℕ) × (i < suc n) × (test i ≡ false)
    by false last e before = (n, omega arith, last)
    by true last e before = let (i, below, here) = before (and_fails (all_below n test) (test n) last e) in (i, omega (arith, below), here)

module _ (s : TwistedSubgroup) (twist : IsTwist s) where
  pub some_place : 0 < size s
  some_place = omega (arith, twist.small.from_one)

  pub some_root : 0 < s.modulus
  some_root = omega (arith, twist.modulus.from_one)

  -- the places
  abbrev pub places : Finite (Below (size s))
  places = finite_below (size s) some_place

  abbrev pub place_group : Group (Below (size s))
  place_group = group_below (table_group s.group twist.group)

  abbrev pub phase_at : Below (size s) → Below (size s) → ℕ
  phase_at p r = phase s p.value r.value

  abbrev pub kappa_at : Below (size s) → Below (size s) → ℕ
  kappa_at c x = kappa s c.value x.value

  pub phase_below : (p r : ℕ) → p < size s → r < size s → phase s p r < s.modulus
  phase_below p r p_below r_below = twist.below (p * size s + r) (rw twist.square (place_below (size s) p r p_below r_below))

  pub phases_cocycle : IsTwoCocycle place_group s.modulus phase_at
  phases_cocycle = record {
    law = λ x y z. twist.cocycle.law x.value y.value z.value x.below y.below z.below;
    at_one_left = λ x. same_of s.modulus (twist.cocycle.at_identity_left x.value x.below);
    at_one_right = λ x. same_of s.modulus (twist.cocycle.at_identity_right x.value x.below);
  }

  -- c x c^-1
  pub carry_value : (c x : Below (size s)) → (carry place_group c x).value ≡ conjugate s.group c.value x.value
  unfolding carry conjugate
  carry_value c x = refl

  pub kappa_phase : IsConjugationPhase place_group s.modulus phase_at kappa_at
  unfolding kappa carry conjugate
  kappa_phase = record {
    difference = λ c x.
        let y = carry place_group c x in
        difference_back s.modulus (phase s c.value x.value) (phase s y.value c.value) (phase_below y.value c.value y.below c.below);
  }

  pub regular_of_test : (x : Below (size s)) → is_regular s x.value ≡ true → IsRegular place_group s.modulus phase_at x
  unfolding is_regular
  regular_of_test x e = record {
    symmetric = λ y same.
        same_of s.modulus
        (eqb-true _ _
        (asked (nat_eq (product s.group x.value y.value) (product s.group y.value x.value)) (nat_eq (phase s x.value y.value) (phase s y.value x.value))
        (all_below-at (size s) y.value (is_symmetric_at s x.value) e y.below)
        (eq-eqb _ _ (ap (λ (z : Below (size s)). z.value) same))));
  }

  -- a place that fails the test has a place that shows it
  pub irregular_of_test : (x : Below (size s)) → is_regular s x.value ≡ false
      → (y : Below (size s)) × (place_group.op x y ≡ place_group.op y x) × (Same s.modulus (phase_at x y) (phase_at y x) → ⊥)
  unfolding is_regular
  irregular_of_test x e =
      let (i, below, fails) = all_below-fails_at (size s) (is_symmetric_at s x.value) e in
      let y : Below (size s) = record { value = i; below = below } in
      let shows = not_asked (nat_eq (product s.group x.value i) (product s.group i x.value)) (nat_eq (phase s x.value i) (phase s i x.value)) fails in (
        y,
        below_equal _ _ (eqb-true _ _ shows.0),
        λ same.
            let passes = eq-eqb _ _ (same_equal (phase_below x.value i x.below below) (phase_below i x.value below x.below) same) in
            let fails = shows.1 in
            absurd cc,
      )

  pub test_of_regular : (x : Below (size s)) → IsRegular place_group s.modulus phase_at x → is_regular s x.value ≡ true
  test_of_regular x r = by (is_regular s x.value) refl
    where
      by : (b : Bool) → is_regular s x.value ≡ b → is_regular s x.value ≡ true
      by true e = e
      by false e = let shows = irregular_of_test x e in absurd (shows.2 (r.symmetric shows.0 shows.1))

  pub regularity : Regularity place_group s.modulus phase_at
  regularity = record { decide = λ x. by x (is_regular s x.value) refl }
    where
      by : (x : Below (size s)) (b : Bool) → is_regular s x.value ≡ b
          → IsRegular place_group s.modulus phase_at x ⊎ ((y : Below (size s)) × (place_group.op x y ≡ place_group.op y x) × (Same s.modulus (phase_at x y) (phase_at y x) → ⊥))
      by x true e = inl (regular_of_test x e)
      by x false e = inr (irregular_of_test x e)

  -- something carries x to y, or nothing does
  pub transporters : Transporters place_group
  transporters = record { find = λ x y. by x y (least_transporter s.group x.value y.value) refl }
    where
      by : (x y : Below (size s)) (o : Option ℕ) → least_transporter s.group x.value y.value ≡ o
          → ((c : Below (size s)) × (carry place_group c x ≡ y)) ⊎ ((c : Below (size s)) → carry place_group c x ≡ y → ⊥)
      by x y (Some c) e =
          let least = transporter_least s.group twist.group x.value y.value c e in
          let c : Below (size s) = record { value = c; below = least.below } in
          inl (c, below_equal _ _ (carry_value c x ∙ eqb-true _ _ least.passes))
      by x y None e = inr (λ c same.
          let carries : conjugate s.group c.value x.value ≡ y.value = sym (carry_value c x) ∙ ap (λ (z : Below (size s)). z.value) same in
          let found : is_some (least_transporter s.group x.value y.value) ≡ true = conjugate_by s.group twist.group x.value y.value c.value c.below carries in
          let none : is_some (least_transporter s.group x.value y.value) ≡ false = ap is_some e in
          cc)
