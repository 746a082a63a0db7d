-- The central elements of the algebra of a twist over a ring of characteristic q.
use Rattle.centre_powers.proofs.Names.{◌≡◌, ◌≢◌, ℕ, true, Some, zero, suc, ◌+◌, ◌-◌, ◌*◌, ◌/◌, ◌%◌, ◌<◌, refl, sym, ◌∙◌, ap, arith, fun_ext, ap₂, CommRing, multiple, power, RootOfUnity, power_mul, one_power, exponent_of, CrossedProduct}
use Rattle.std.proofs.Math.Nat.{div-add-mod, mod-eq_of_lt, mul-mod_right, mul_assoc, mul_comm}
use Rattle.algebra.specs.Totals.{equals}
use Rattle.algebra.specs.Below.{Below}
use Rattle.orders.proofs.Exponents.{exponent_is_least}
use Rattle.group_table.specs.Group.{product, identity_of}
use Rattle.group_table.proofs.Sentences as group
use Rattle.twisted.specs.Twist.{TwistedSubgroup, size, IsTwist}
use Rattle.twisted.specs.Algebra.{root, unit_vector, twisted_product, IsCentral}
use Rattle.twisted.proofs.AlgebraLaws.{twist_roots, on_places, product_on_places, quotient_whole}
use Rattle.twisted.proofs.Translation.{places, place_group, phase_at, kappa_at, phases_cocycle, kappa_phase, some_root}
use Rattle.central_ext.specs.Extension.{power_phase}
use Rattle.central_ext.specs.PowersOfUnits.{algebra_power}
use Rattle.central_ext.proofs.AlgebraPowers.{power_of_unit}
use Rattle.cyclotomic.specs.Conductors.{is_conductor}
use Rattle.prime_field.specs.Moduli.{is_modulus, least_root}
use Rattle.prime_field.specs.Field.{field}
use Rattle.prime_field.specs.Laws.Moduli.{modulus_positive}
use Rattle.prime_field.specs.Laws.Residues.{multiple_value}
use Rattle.prime_field.specs.Laws.Field.{value_nought, multiple_cancels, residue_power, field_unit}
use Rattle.prime_field.proofs.RootOrder.{order_divides_units}
use Rattle.power_theory.specs.Rings.{Ring, ring_power}
use Rattle.power_theory.specs.Traces.{HasCharacteristic}
use Rattle.power_theory.proofs.RingSums as ring
use Rattle.power_theory.proofs.CentralElements.{central_fixed, power_of_scaled}
use Rattle.centre_powers.specs.CentralPowers.{unit_period, CentralPowers}
use Rattle.centre_powers.proofs.ConvolutionRing.{convolution_ring, convolution_crossed}

-- what is a multiple of a multiple
whole_part : (a b : ℕ) → a % b ≡ 0 → a ≡ b * (a / b)
whole_part a b e = let parts : b * (a / b) + a % b ≡ a = div-add-mod a b in omega arith

module _ {A : Type 0} (R : CommRing A) {m : ℕ} (U : RootOfUnity R m) (s : TwistedSubgroup) (twist : IsTwist s) (divides : m % s.modulus ≡ 0) where
  -- the algebra of the twist, on its places
  abbrev pub twist_ring : Ring (Below (size s) → A)
  twist_ring =
      convolution_ring R (places s twist) (place_group s twist) (some_root s twist) (twist_roots R U s twist divides) (phase_at s twist) (kappa_at s twist)
      (phases_cocycle s twist) (kappa_phase s twist)

  abbrev pub twist_crossed : CrossedProduct R (places s twist) (place_group s twist) twist_ring
  twist_crossed =
      convolution_crossed R (places s twist) (place_group s twist) (some_root s twist) (twist_roots R U s twist divides) (phase_at s twist) (kappa_at s twist)
      (phases_cocycle s twist) (kappa_phase s twist)

  abbrev pub restricted : (ℕ → A) → Below (size s) → A
  restricted z = on_places R U s twist divides z

  unit_restricted : (y : Below (size s)) → restricted (unit_vector R U s y.value) ≡ twist_crossed.unit y
  unfolding equals
  unit_restricted y = refl

  product_restricted : (p r : ℕ → A) → restricted (twisted_product R U s p r) ≡ twist_ring.mul (restricted p) (restricted r)
  product_restricted p r = fun_ext (λ x. sym (product_on_places R U s twist divides p r x))

  power_restricted : (z : ℕ → A) (j : ℕ) → restricted (algebra_power R U s z j) ≡ ring_power twist_ring (restricted z) j
  unfolding algebra_power ring_power
  power_restricted z zero = unit_restricted (place_group s twist).one
  power_restricted z (suc j) =
      product_restricted (algebra_power R U s z j) z ∙ ap (λ p. twist_ring.mul p (restricted z)) (power_restricted z j)

  central_restricted : (z : ℕ → A) → IsCentral R U s z → (y : Below (size s)) → twist_ring.mul (restricted z) (twist_crossed.unit y)
      ≡ twist_ring.mul (twist_crossed.unit y) (restricted z)
  central_restricted z central y =
      ap (twist_ring.mul (restricted z)) (sym (unit_restricted y))
      ∙ sym (product_restricted z (unit_vector R U s y.value))
      ∙ fun_ext (λ (x : Below (size s)). central.commutes y.value x.value y.below x.below)
      ∙ product_restricted (unit_vector R U s y.value) z
      ∙ ap (λ u. twist_ring.mul u (restricted z)) (unit_restricted y)

  -- E, the exponent of the group of the places
  abbrev pub group_exponent : ℕ
  group_exponent = exponent_of s.group.order (product s.group) (identity_of s.group)

  -- u_p^E is a root of unity, whose power by the modulus N is 1
  power_by_exponent : (p : Below (size s))
      → ring_power twist_ring (twist_crossed.unit p) group_exponent
      ≡ twist_crossed.scale (root R U s (power_phase s p.value group_exponent)) twist_ring.one
  power_by_exponent p =
      ap (λ u. ring_power twist_ring u group_exponent) (sym (unit_restricted p))
      ∙ sym (power_restricted (unit_vector R U s p.value) group_exponent)
      ∙ fun_ext (λ (x : Below (size s)).
      power_of_unit R U s twist divides p.value group_exponent x.value p.below x.below
      ∙ ap (λ e. R.mul (root R U s (power_phase s p.value group_exponent)) (unit_vector R U s e x.value))
      ((exponent_is_least s.group.order (product s.group) (identity_of s.group) (group.group_below s.group twist.group)).gives_unit p.value p.below))
      ∙ ap (twist_crossed.scale (root R U s (power_phase s p.value group_exponent))) (unit_restricted (place_group s twist).one)

  root_cycles : (v : ℕ) → power R (root R U s v) s.modulus ≡ R.one
  root_cycles v =
      let whole : m ≡ m / s.modulus * s.modulus = quotient_whole m s.modulus divides in
      sym (power_mul R U.root (v * (m / s.modulus)) s.modulus)
      ∙ ap (power R U.root) (by v (m / s.modulus) s.modulus ∙ ap (λ k. k * v) (sym whole))
      ∙ power_mul R U.root m v
      ∙ ap (λ c. power R c v) U.cycle
      ∙ one_power R v
    where
      by : (a b c : ℕ) → a * b * c ≡ b * c * a
      by a b c = mul_assoc a b c ∙ mul_comm a (b * c)

  -- u_p^(N E) = 1
  power_by_period : (p : Below (size s)) → ring_power twist_ring (twist_crossed.unit p) (unit_period s) ≡ twist_ring.one
  power_by_period p =
      let c : A = root R U s (power_phase s p.value group_exponent) in
      ap (ring_power twist_ring (twist_crossed.unit p)) (mul_comm s.modulus group_exponent)
      ∙ ring.power_mul twist_ring (twist_crossed.unit p) group_exponent s.modulus
      ∙ ap (λ u. ring_power twist_ring u s.modulus) (power_by_exponent p)
      ∙ power_of_scaled R (places s twist) (place_group s twist) twist_ring twist_crossed c twist_ring.one s.modulus
      ∙ ap₂ twist_crossed.scale (root_cycles (power_phase s p.value group_exponent)) (ring.one_power twist_ring s.modulus)
      ∙ twist_crossed.scale_one twist_ring.one

  -- u_p^q = u_p where N E divides q - 1
  unit_fixed : (q l : ℕ) → q ≡ suc (unit_period s * l) → (p : Below (size s)) → ring_power twist_ring (twist_crossed.unit p) q
      ≡ twist_crossed.unit p
  unit_fixed q l e p =
      let u : Below (size s) → A = twist_crossed.unit p in
      ap (ring_power twist_ring u) e
      ∙ ring.power_suc twist_ring u (unit_period s * l)
      ∙ ap (λ w. twist_ring.mul w u)
      (ring.power_mul twist_ring u (unit_period s) l ∙ ap (λ w. ring_power twist_ring w l) (power_by_period p) ∙ ring.one_power twist_ring l)
      ∙ twist_ring.one_mul u

  -- z^q = z
  central_power : (q l : ℕ) → HasCharacteristic R q → size s < q → q ≡ suc (unit_period s * l) → ((c : A) → power R c q ≡ c)
      → (z : ℕ → A) → IsCentral R U s z → (x : ℕ) → x < size s → algebra_power R U s z q x ≡ z x
  central_power q l characteristic over e numbers z central x below =
      let here : Below (size s) = record { value = x; below = below } in
      ap (λ (p : Below (size s) → A). p here)
      (power_restricted z q
      ∙ central_fixed R (places s twist) (place_group s twist) twist_ring twist_crossed q characteristic over numbers (unit_fixed q l e) (restricted z) (central_restricted z central))

module _ {A : Type 0} (R : CommRing A) {m : ℕ} (U : RootOfUnity R m) where
  pub central_powers_over : (q : ℕ) → HasCharacteristic R q → (q - 1) % m ≡ 0 → ((c : A) → power R c q ≡ c) → CentralPowers R U q
  central_powers_over q characteristic order numbers s twist over period z central =
      let n : ℕ = s.modulus in
      let e : ℕ = exponent_of s.group.order (product s.group) (identity_of s.group) in
      let k : ℕ = m / unit_period s in
      let l : ℕ = (q - 1) / m in
      let whole : m ≡ unit_period s * k = whole_part m (unit_period s) period in
      let divides : m % n ≡ 0 = ap (λ a. a % n) (whole ∙ mul_assoc n e k) ∙ mul-mod_right n (e * k) in
      let units : q - 1 ≡ unit_period s * (k * l) = whole_part (q - 1) m order
      ∙ ap (λ a. a * l) whole
      ∙ mul_assoc (unit_period s) k l in
      central_power R U s twist divides q (k * l) characteristic over (omega (arith, units, over)) numbers z central

-- where q is a listed modulus, q copies of a residue add up to nought, and fewer only of nought
residues_characteristic : (q : ℕ) (listed : is_modulus q ≡ true) → HasCharacteristic (field q listed) q
residues_characteristic q listed = record {
  vanishes =
      λ x. value_nought q listed (multiple (field q listed) q x) (multiple_value q (modulus_positive q listed) q x ∙ mul-mod_right q x.value);
  cancels = λ k x from below e.
      multiple_cancels q listed k (λ zero. absurd (let same : k ≡ 0 = sym (mod-eq_of_lt below) ∙ zero in omega arith)) x e;
}

pub residues_central_powers : (q : ℕ) (listed : is_modulus q ≡ true) (k r : ℕ) (least : least_root q k ≡ Some r) (entry : is_conductor k ≡ true) (apart : k % q ≢ 0)
    → CentralPowers (field q listed) (field_unit q listed k r least entry apart) q
residues_central_powers q listed k r least entry apart =
    let unit = field_unit q listed k r least entry apart in
    central_powers_over (field q listed) unit q (residues_characteristic q listed) (order_divides_units q listed k unit) (residue_power q listed)
