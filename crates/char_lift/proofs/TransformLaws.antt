-- The inverse transform of values that are known modulo q, and the values at powers.
use Rattle.char_lift.proofs.Names.{◌≡◌, ℕ, ◌+◌, ◌-◌, ◌*◌, ◌%◌, ◌<◌, List, length, get_or, sym, ap, ◌∙◌, add-one, mod-lt, mod-mod, mul-mod_first, mul-mod_second, slice_index, power, product, TwistedSubgroup, phase, place_power, power_phase, power_modulo, power_phase-suc, sum_of, tabulated, inverse_residue, inverse_transform, with_multiplicities, tabulated-at, tabulated-same, length-tabulated}
use Rattle.char_lift.proofs.ValueLaws.{multiplicities_same}
use Rattle.char_lift.proofs.SumLaws.{sum-residues, sum-same}

module _ (q k z : ℕ) where
  -- the sum of an inverse transform may be taken modulo q
  pub transform_of_sum : (values : ℕ → ℕ) (i : ℕ) → (inverse_residue q k * (sum_of k (λ j. values j * power_modulo q z (k - (i * j) % k)) % q)) % q ≡ inverse_transform q k z values i
  unfolding inverse_transform
  transform_of_sum values i = mul-mod_second (inverse_residue q k) (sum_of k (λ j. values j * power_modulo q z (k - (i * j) % k))) q

  pub transform_below : 0 < q → (values : ℕ → ℕ) (i : ℕ) → inverse_transform q k z values i < q
  unfolding inverse_transform
  transform_below positive values i = mod-lt (inverse_residue q k * sum_of k (λ j. values j * power_modulo q z (k - (i * j) % k))) positive

  -- values that are the same modulo q have the same transform
  pub transform_same : (values others : ℕ → ℕ) (i : ℕ) → ((j : ℕ) → j < k → values j % q ≡ others j % q) → inverse_transform q k z values i ≡ inverse_transform q k z others i
  transform_same values others i same =
      let weight : ℕ → ℕ = λ j. power_modulo q z (k - (i * j) % k) in
      sym (transform_of_sum values i)
      ∙ ap (λ a. (inverse_residue q k * a) % q)
      (sum-residues q k (λ j. values j * weight j) (λ j. others j * weight j)
      (λ j h. sym (mul-mod_first (values j) (weight j) q) ∙ ap (λ a. (a * weight j) % q) (same j h) ∙ mul-mod_first (others j) (weight j) q))
      ∙ transform_of_sum others i

  -- so a table of residues gives the multiplicities
  pub transform_of_table : (values : ℕ → ℕ) (numbers : List ℕ) → numbers ≡ tabulated k (λ j. values j % q)
      → tabulated k (inverse_transform q k z (slice_index numbers)) ≡ tabulated k (inverse_transform q k z values)
  transform_of_table values numbers is =
      tabulated-same k (inverse_transform q k z (slice_index numbers)) (inverse_transform q k z values)
      (λ i h. transform_same (slice_index numbers) values i
      (λ j below. ap (λ a. a % q) (ap (λ xs. get_or xs j 0) is ∙ tabulated-at k j (λ n. values n % q) 0 below) ∙ residue_twice (values j)))
    where
      residue_twice : (a : ℕ) → a % q % q ≡ a % q
      residue_twice a = mod-mod a q

-- a table is read at its places
pub sum_of_table : (k : ℕ) (f : ℕ → ℕ) (numbers : List ℕ) → numbers ≡ tabulated k f → sum_of (length numbers) (slice_index numbers) ≡ sum_of k f
sum_of_table k f numbers is =
    ap (λ n. sum_of n (slice_index numbers)) (ap length is ∙ length-tabulated k f)
    ∙ sum-same k (slice_index numbers) f (λ i h. ap (λ xs. get_or xs i 0) is ∙ tabulated-at k i f 0 h)

pub value_of_table : (k : ℕ) (f : ℕ → ℕ) (numbers : List ℕ) → numbers ≡ tabulated k f → with_multiplicities k (slice_index numbers) ≡ with_multiplicities k f
value_of_table k f numbers is = multiplicities_same k (slice_index numbers) f (λ i h. ap (λ xs. get_or xs i 0) is ∙ tabulated-at k i f 0 h)

-- the place and the phase of one more power
pub place_more : (s : TwistedSubgroup) (x j : ℕ) → product s.group (place_power s x j) x ≡ place_power s x (j + 1)
unfolding power
place_more s x j = ap (place_power s x) (sym (add-one j))

pub phase_more : (s : TwistedSubgroup) (x j : ℕ) → (power_phase s x j + phase s (place_power s x j) x) % s.modulus ≡ power_phase s x (j + 1)
phase_more s x j = sym (power_phase-suc s x j) ∙ ap (power_phase s x) (sym (add-one j))
