-- A place is regular exactly where its lifts are pairwise not conjugate.
use Rattle.central_ext.proofs.Names.{Below, IsPair, IsTwist, Pair, Same, TwistedSubgroup, ap, are_conjugate, arith, below_equal, carry, carry_value, conjugate, ext_conjugate, is_regular, kappa, kappa_at, kappa_below, kappa_of_commuting, kappa_phase, mod-eq_of_lt, phase_at, phases_cocycle, place_group, regular_of_kappa, regular_of_test, same_add_left, same_equal, same_mod, same_of, same_sym, same_trans, size, some_root, sym, test_of_regular, true, ℕ, ◌%◌, ◌+◌, ◌<◌, ◌↔◌, ◌∙◌, ◌≡◌}
use Rattle.central_ext.proofs.PairLaws.{conjugate_is, conjugate_by, carrier_of}

-- the lift (p,i)
abbrev pub lift : ℕ → ℕ → Pair
lift p i = record { place = p; root = i }

module _ (s : TwistedSubgroup) (twist : IsTwist s) (p : ℕ) (p_below : p < size s) where
  abbrev pub here : Below (size s)
  here = record { value = p; below = p_below }

  lift_pair : (i : ℕ) → i < s.modulus → IsPair s (lift p i)
  lift_pair i below = record { place_below = p_below; root_below = below }

  apart_of_regular : is_regular s p ≡ true → (i j : ℕ) → i < s.modulus → j < s.modulus → are_conjugate s (lift p i) (lift p j) ≡ true → i ≡ j
  apart_of_regular regular i j i_below j_below e =
      let found = carrier_of s twist (lift p i) (lift p j) e in
      let c : Below (size s) = record { value = found.0.place; below = found.1.place_below } in
      let carried : lift (conjugate s.group found.0.place p) ((i + kappa s found.0.place p) % s.modulus) ≡ lift p j =
      sym (conjugate_is s twist found.0 (lift p i) found.1 (lift_pair i i_below)) ∙ found.2 in
      let still : carry (place_group s twist) c here ≡ here = below_equal _ _ (carry_value s twist c here ∙ ap (λ (a : Pair). a.place) carried) in
      let none : Same s.modulus (kappa s found.0.place p) 0 =
      kappa_of_commuting (place_group s twist) s.modulus (phase_at s twist) (kappa_at s twist) (phases_cocycle s twist) (kappa_phase s twist) c here (regular_of_test s twist here regular) still in
      let root : (i + kappa s found.0.place p) % s.modulus ≡ j = ap (λ (a : Pair). a.root) carried in
      same_equal i_below j_below
      (same_trans (same_of s.modulus (omega arith)) (same_trans (same_sym (same_add_left i none)) (same_trans (same_sym (same_mod s.modulus (i + kappa s found.0.place p))) (same_of s.modulus root))))

  regular_of_apart : ((i j : ℕ) → i < s.modulus → j < s.modulus → are_conjugate s (lift p i) (lift p j) ≡ true → i ≡ j) → is_regular s p ≡ true
  regular_of_apart apart =
      test_of_regular s twist here
      (regular_of_kappa (place_group s twist) s.modulus (phase_at s twist) (kappa_at s twist) (phases_cocycle s twist) (kappa_phase s twist) here
      (λ c still. none c still))
    where
      none : (c : Below (size s)) → carry (place_group s twist) c here ≡ here → Same s.modulus (kappa s c.value p) 0
      none c still =
          let k : ℕ = kappa s c.value p in
          let fixed : conjugate s.group c.value p ≡ p = sym (carry_value s twist c here) ∙ ap (λ (z : Below (size s)). z.value) still in
          let by : Pair = lift c.value 0 in
          let carried : ext_conjugate s by (lift p 0) ≡ lift p k =
          conjugate_is s twist by (lift p 0) (record { place_below = c.below; root_below = some_root s twist }) (lift_pair 0 (some_root s twist))
          ∙ ap (λ z. lift z ((0 + k) % s.modulus)) fixed
          ∙ ap (lift p) (ap (λ z. z % s.modulus) (omega arith) ∙ mod-eq_of_lt (kappa_below s twist c.value p)) in
          same_of s.modulus
          (sym (apart 0 k (some_root s twist) (kappa_below s twist c.value p)
          (conjugate_by s twist (lift p 0) (lift p k) by (record { place_below = c.below; root_below = some_root s twist }) carried)))

  pub regular_exactly : (is_regular s p ≡ true) ↔ ((i j : ℕ) → i < s.modulus → j < s.modulus → are_conjugate s (lift p i) (lift p j) ≡ true → i ≡ j)
  regular_exactly = (apart_of_regular, regular_of_apart)
