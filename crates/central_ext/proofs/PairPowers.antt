-- Powers in the extension.
use Rattle.central_ext.proofs.Names.{IsPair, IsTwist, Pair, TwistedSubgroup, add-one, add-suc, add-zero, ap, arith, ext_identity, ext_power, ext_product, group_below, phase, place_power, power, power_below, power_phase, refl, size, some_root, suc, sym, zero, ℕ, ◌%◌, ◌*◌, ◌+◌, ◌/◌, ◌<◌, ◌∙◌, ◌≡◌, ◌≢◌}
use Rattle.central_ext.proofs.PairLaws.{product_pair, identity_pair, product_associates, product_identity, pair_equal}

module _ (s : TwistedSubgroup) where
  pub ext_power-zero : (a : Pair) → ext_power s a 0 ≡ ext_identity s
  unfolding ext_power
  ext_power-zero a = refl

  pub ext_power-suc : (a : Pair) (j : ℕ) → ext_power s a (suc j) ≡ ext_product s (ext_power s a j) a
  unfolding ext_power
  ext_power-suc a j = refl

  pub power_phase-zero : (p : ℕ) → power_phase s p 0 ≡ 0
  unfolding power_phase
  power_phase-zero p = refl

  pub power_phase-suc : (p j : ℕ) → power_phase s p (suc j) ≡ (power_phase s p j + phase s (place_power s p j) p) % s.modulus
  unfolding power_phase
  power_phase-suc p j = refl

module _ (s : TwistedSubgroup) (twist : IsTwist s) where
  pub place_power_below : (p j : ℕ) → p < size s → place_power s p j < size s
  place_power_below p j below = power_below _ _ _ (group_below s.group twist.group) p j below

  pub power_pair : (a : Pair) (j : ℕ) → IsPair s a → IsPair s (ext_power s a j)
  power_pair a zero p = rw (ext_power-zero s a) (identity_pair s twist)
  power_pair a (suc j) p = rw (ext_power-suc s a j) (product_pair s twist (ext_power s a j) a (power_pair a j p) p)

  -- a^(i + j) = a^i a^j
  pub power_sum : (a : Pair) (i j : ℕ) → IsPair s a → ext_power s a (i + j) ≡ ext_product s (ext_power s a i) (ext_power s a j)
  power_sum a i zero p = rw (add-zero i, ext_power-zero s a) (sym (product_identity s twist (ext_power s a i) (power_pair a i p)))
  power_sum a i (suc j) p =
      rw (add-suc i j, ext_power-suc s a (i + j), ext_power-suc s a j, power_sum a i j p)
      (product_associates s twist (ext_power s a i) (ext_power s a j) a (power_pair a i p) (power_pair a j p) p)

  -- (a a)^j = a^(2 j)
  power_of_square : (a : Pair) (j : ℕ) → IsPair s a → ext_power s (ext_product s a a) j ≡ ext_power s a (2 * j)
  power_of_square a zero p = ext_power-zero s (ext_product s a a) ∙ sym (ext_power-zero s a)
  power_of_square a (suc j) p =
      let twice : 2 * suc j ≡ suc (suc (2 * j)) = omega arith in
      rw (twice, ext_power-suc s a (suc (2 * j)), ext_power-suc s a (2 * j), ext_power-suc s (ext_product s a a) j, power_of_square a j p)
      (sym (product_associates s twist (ext_power s a (2 * j)) a a (power_pair a (2 * j) p) p p))

  -- (a a)^(j/2) is a^j, or one factor a less
  pub power_none : (a : Pair) (j : ℕ) → j ≡ 0 → ext_power s a j ≡ ext_identity s
  power_none a j e = rw e (ext_power-zero s a)

  pub power_even : (a : Pair) (j : ℕ) → IsPair s a → j % 2 ≡ 0 → ext_power s (ext_product s a a) (j / 2) ≡ ext_power s a j
  power_even a j p e = power_of_square a (j / 2) p ∙ ap (ext_power s a) (omega arith)

  pub power_odd : (a : Pair) (j : ℕ) → IsPair s a → j % 2 ≢ 0 → ext_product s (ext_power s (ext_product s a a) (j / 2)) a ≡ ext_power s a j
  power_odd a j p e =
      ap (λ b. ext_product s b a) (power_of_square a (j / 2) p)
      ∙ sym (ext_power-suc s a (2 * (j / 2)))
      ∙ ap (ext_power s a) (sym (add-one (2 * (j / 2))) ∙ omega arith)

  -- (p,0)^j = (p^j, power_phase(p,j))
  pub power_of_lift : (p j : ℕ) → p < size s → ext_power s (record { place = p; root = 0 }) j ≡ record { place = place_power s p j; root = power_phase s p j }
  unfolding power
  power_of_lift p zero below = ext_power-zero s (record { place = p; root = 0 }) ∙ pair_equal refl (sym (power_phase-zero s p))
  power_of_lift p (suc j) below =
      rw (ext_power-suc s (record { place = p; root = 0 }) j, power_of_lift p j below, power_phase-suc s p j)
      (pair_equal refl (ap (λ v. v % s.modulus) (omega arith)))

  pub phase_of_sum : (p i j : ℕ) → p < size s
      → power_phase s p (i + j) ≡ (power_phase s p i + power_phase s p j + phase s (place_power s p i) (place_power s p j)) % s.modulus
  phase_of_sum p i j below =
      ap (λ (a : Pair). a.root)
      (rw (power_of_lift p (i + j) below, power_of_lift p i below, power_of_lift p j below) at
      (power_sum (record { place = p; root = 0 }) i j (record { place_below = below; root_below = some_root s twist })))
