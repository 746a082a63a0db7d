-- The central elements of a crossed product with a finite group of fewer than q elements, in characteristic q: the sum of all
-- conjugates by the u_x is a trace, and takes a central element to as many copies of it as the group has elements.
use Rattle.power_theory.proofs.Names.{◌≡◌, ℕ, zero, suc, ◌<◌, sym, ◌∙◌, ap, arith, fun_ext, ap₂, CommRing, multiple, power, Ring, ring_sum, ring_power, Trace, HasCharacteristic}
use Rattle.algebra.specs.Totals.{Finite, total}
use Rattle.algebra.specs.Groups.{Group}
use Rattle.algebra.proofs.SumLaws as sums
use Rattle.algebra.proofs.RingLaws as commutative
use Rattle.algebra.proofs.TotalLaws.{total_ext, total_add, total_constant, total_reindex}
use Rattle.algebra.proofs.GroupLaws.{op_op_inv, op_inv_cancel}
use Rattle.power_theory.specs.CrossedProducts.{CrossedProduct}
use Rattle.power_theory.proofs.RingSums.{mul_nought, nought_mul, sum_holds, power_zero, power_suc, nought_power, power_commutes}
use Rattle.power_theory.proofs.SumPowers.{trace_power_of_sum}

-- equal multiples are of equal elements, where only nought has a multiple that is nought
module _ {A : Type 0} (R : CommRing A) (k : ℕ) (cancels : (x : A) → multiple R k x ≡ R.nought → x ≡ R.nought) where
  multiples_equal : (x y : A) → multiple R k x ≡ multiple R k y → x ≡ y
  multiples_equal x y h =
      let difference : R.add x (R.neg y) ≡ R.nought =
      cancels (R.add x (R.neg y))
      (sums.multiple_of_add R k x (R.neg y) ∙ ap₂ R.add h (sums.multiple_neg R k y) ∙ R.add_neg (multiple R k y)) in
      commutative.add_cancel R (R.neg y) x y (R.add_comm (R.neg y) x ∙ difference ∙ sym (R.add_comm (R.neg y) y ∙ R.add_neg y))

module _ {A G C : Type 0} (R : CommRing A) (F : Finite G) (P : Group G) (T : Ring C) (K : CrossedProduct R F P T) where
  -- u_x has an inverse
  abbrev pub inverse : G → C
  inverse x = K.scale (K.factor_inverse (P.inv x) x) (K.unit (P.inv x))

  -- a multiple of a product that is u_e is 1
  unscaled : (x y : G) → P.op x y ≡ P.one → T.mul (K.unit x) (K.unit y) ≡ K.scale (K.factor x y) T.one
  unscaled x y e = K.unit_mul x y ∙ ap (K.scale (K.factor x y)) (ap K.unit e ∙ K.unit_one)

  inverts : (x y : G) → K.scale (K.factor_inverse x y) (K.scale (K.factor x y) T.one) ≡ T.one
  inverts x y = simp (K.scale_scale, K.factor_inverts, K.scale_one)

  inverse_unit : (x : G) → T.mul (inverse x) (K.unit x) ≡ T.one
  inverse_unit x = simp (K.scale_mul, unscaled (P.inv x) x (P.inv_op x), inverts)

  unit_inverse : (x : G) → T.mul (K.unit x) (inverse x) ≡ T.one
  unit_inverse x =
      let right : C = K.scale (K.factor_inverse x (P.inv x)) (K.unit (P.inv x)) in
      let one : T.mul (K.unit x) right ≡ T.one = simp (K.mul_scale, unscaled x (P.inv x) (P.op_inv x), inverts) in
      let same : inverse x ≡ right =
      sym (T.mul_one (inverse x)) ∙ ap (T.mul (inverse x)) (sym one) ∙ sym (T.mul_assoc (inverse x) (K.unit x) right)
      ∙ ap (λ y. T.mul y right) (inverse_unit x) ∙ T.one_mul right in
      ap (T.mul (K.unit x)) same ∙ one

  -- u_x z u_x^-1
  abbrev pub conjugate : G → C → C
  conjugate x z = T.mul (K.unit x) (T.mul z (inverse x))

  conjugate_add : (x : G) (y z : C) → conjugate x (T.add y z) ≡ T.add (conjugate x y) (conjugate x z)
  conjugate_add x y z =
      ap (T.mul (K.unit x)) (T.add_mul y z (inverse x)) ∙ T.mul_add (K.unit x) (T.mul y (inverse x)) (T.mul z (inverse x))

  -- (u_x u_y)^-1 = u_y^-1 u_x^-1, and u_x u_y is a multiple of u_xy
  inverse_of_product : (x y : G) → K.scale (K.factor x y) (T.mul (inverse y) (inverse x)) ≡ inverse (P.op x y)
  inverse_of_product x y =
      let back : C = T.mul (inverse y) (inverse x) in
      let forth : C = T.mul (K.unit x) (K.unit y) in
      let one : T.mul forth back ≡ T.one =
      T.mul_assoc (K.unit x) (K.unit y) back
      ∙ ap (T.mul (K.unit x)) (sym (T.mul_assoc (K.unit y) (inverse y) (inverse x)) ∙ ap (λ z. T.mul z (inverse x)) (unit_inverse y) ∙ T.one_mul (inverse x))
      ∙ unit_inverse x in
      let other : T.mul (K.unit (P.op x y)) (K.scale (K.factor x y) back) ≡ T.one =
      K.mul_scale (K.factor x y) (K.unit (P.op x y)) back
      ∙ sym (K.scale_mul (K.factor x y) (K.unit (P.op x y)) back)
      ∙ ap (λ z. T.mul z back) (sym (K.unit_mul x y))
      ∙ one in
      sym (T.one_mul (K.scale (K.factor x y) back))
      ∙ ap (λ z. T.mul z (K.scale (K.factor x y) back)) (sym (inverse_unit (P.op x y)))
      ∙ T.mul_assoc (inverse (P.op x y)) (K.unit (P.op x y)) (K.scale (K.factor x y) back)
      ∙ ap (T.mul (inverse (P.op x y))) other
      ∙ T.mul_one (inverse (P.op x y))

  -- a conjugate of a conjugate is that by the product
  conjugate_twice : (x y : G) (z : C) → conjugate x (conjugate y z) ≡ conjugate (P.op x y) z
  conjugate_twice x y z =
      let back : C = T.mul (inverse y) (inverse x) in
      ap (T.mul (K.unit x)) (T.mul_assoc (K.unit y) (T.mul z (inverse y)) (inverse x) ∙ ap (T.mul (K.unit y)) (T.mul_assoc z (inverse y) (inverse x)))
      ∙ sym (T.mul_assoc (K.unit x) (K.unit y) (T.mul z back))
      ∙ ap (λ w. T.mul w (T.mul z back)) (K.unit_mul x y)
      ∙ K.scale_mul (K.factor x y) (K.unit (P.op x y)) (T.mul z back)
      ∙ sym (ap (T.mul (K.unit (P.op x y))) (K.mul_scale (K.factor x y) z back) ∙ K.mul_scale (K.factor x y) (K.unit (P.op x y)) (T.mul z back))
      ∙ ap (λ w. T.mul (K.unit (P.op x y)) (T.mul z w)) (inverse_of_product x y)

  -- the factor c u_x at the end of a product goes to the front by a conjugation
  conjugate_turns : (x : G) (c : A) (z : C) → conjugate x (T.mul z (K.scale c (K.unit x))) ≡ T.mul (K.scale c (K.unit x)) z
  conjugate_turns x c z =
      let term : C = K.scale c (K.unit x) in
      let last : T.mul term (inverse x) ≡ K.scale c T.one = K.scale_mul c (K.unit x) (inverse x)
      ∙ ap (K.scale c) (unit_inverse x) in
      ap (T.mul (K.unit x)) (T.mul_assoc z term (inverse x) ∙ ap (T.mul z) last ∙ K.mul_scale c z T.one ∙ ap (K.scale c) (T.mul_one z))
      ∙ K.mul_scale c (K.unit x) z
      ∙ sym (K.scale_mul c (K.unit x) z)

  -- the number at u_x of the sum of all conjugates
  abbrev pub spread : G → C → A
  spread x z = total R F (λ c. K.coordinate (conjugate c z) x)

  pub spread_add : (x : G) (y z : C) → spread x (T.add y z) ≡ R.add (spread x y) (spread x z)
  spread_add x y z =
      total_ext R F (λ c. K.coordinate (conjugate c (T.add y z)) x) (λ c. R.add (K.coordinate (conjugate c y) x) (K.coordinate (conjugate c z) x))
      (λ c. ap (λ w. K.coordinate w x) (conjugate_add c y z) ∙ K.coordinate_add (conjugate c y) (conjugate c z) x)
      ∙ total_add R F (λ c. K.coordinate (conjugate c y) x) (λ c. K.coordinate (conjugate c z) x)

  spread_conjugate : (x y : G) (z : C) → spread x (conjugate y z) ≡ spread x z
  spread_conjugate x y z =
      total_ext R F (λ c. K.coordinate (conjugate c (conjugate y z)) x) (λ c. K.coordinate (conjugate (P.op c y) z) x)
      (λ c. ap (λ w. K.coordinate w x) (conjugate_twice c y z))
      ∙ total_reindex R F F (λ c. P.op c y) (λ c. P.op c (P.inv y)) (λ c. op_op_inv P y c) (λ c. op_inv_cancel P y c) (λ c. K.coordinate (conjugate c z) x)

  pub spread_mul : (x : G) (y z : C) → spread x (T.mul y z) ≡ spread x (T.mul z y)
  spread_mul x y z =
      rw (K.spans z)
      (sum_holds T (λ z. spread x (T.mul y z) ≡ spread x (T.mul z y))
      (ap (spread x) (mul_nought T y ∙ sym (nought_mul T y)))
      (λ u v hu hv.
      ap (spread x) (T.mul_add y u v) ∙ spread_add x (T.mul y u) (T.mul y v) ∙ ap₂ R.add hu hv
      ∙ sym (ap (spread x) (T.add_mul u v y) ∙ spread_add x (T.mul u y) (T.mul v y)))
      F.size
      (λ i. K.scale (K.coordinate z (F.at i)) (K.unit (F.at i)))
      (λ i. by (F.at i) (K.coordinate z (F.at i))))
    where
      by : (g : G) (c : A) → spread x (T.mul y (K.scale c (K.unit g))) ≡ spread x (T.mul (K.scale c (K.unit g)) y)
      by g c = sym (spread_conjugate x g (T.mul y (K.scale c (K.unit g)))) ∙ ap (spread x) (conjugate_turns g c y)

  -- it is a trace
  abbrev pub conjugates : G → Trace T R
  conjugates x = record { trace = spread x; of_add = spread_add x; of_mul = spread_mul x }

  -- a central element is its own conjugate
  spread_central : (x : G) (z : C) → ((y : G) → T.mul z (K.unit y) ≡ T.mul (K.unit y) z) → spread x z
      ≡ multiple R F.size (K.coordinate z x)
  spread_central x z central =
      total_ext R F (λ c. K.coordinate (conjugate c z) x) (λ c. K.coordinate z x)
      (λ c. ap (λ w. K.coordinate w x)
      (sym (T.mul_assoc (K.unit c) z (inverse c)) ∙ ap (λ w. T.mul w (inverse c)) (sym (central c)) ∙ T.mul_assoc z (K.unit c) (inverse c)
      ∙ ap (T.mul z) (unit_inverse c) ∙ T.mul_one z))
      ∙ total_constant R F (K.coordinate z x)

  pub power_of_scaled : (c : A) (y : C) (n : ℕ) → ring_power T (K.scale c y) n ≡ K.scale (power R c n) (ring_power T y n)
  power_of_scaled c y zero = simp (power_zero, sums.power_zero, K.scale_one)
  power_of_scaled c y (suc n) = simp (power_suc, power_of_scaled c y n, K.scale_mul, K.mul_scale, K.scale_scale, sums.power_suc)

  module _ (q : ℕ) (characteristic : HasCharacteristic R q) (over : F.size < q)
      (numbers : (c : A) → power R c q ≡ c) (units : (x : G) → ring_power T (K.unit x) q ≡ K.unit x) where
    -- a power by q has the trace of its base
    spread_power : (x : G) (z : C) → spread x (ring_power T z q) ≡ spread x z
    spread_power x z =
        rw (K.spans z)
        (sum_holds T (λ z. spread x (ring_power T z q) ≡ spread x z)
        (ap (spread x) (nought_power T q (omega arith)))
        (λ u v hu hv. trace_power_of_sum T R (conjugates x) u v q characteristic (omega arith) ∙ ap₂ R.add hu hv ∙ sym (spread_add x u v))
        F.size
        (λ i. K.scale (K.coordinate z (F.at i)) (K.unit (F.at i)))
        (λ i. ap (spread x) (power_of_scaled (K.coordinate z (F.at i)) (K.unit (F.at i)) q ∙ ap₂ K.scale (numbers (K.coordinate z (F.at i))) (units (F.at i)))))

    -- a central element is its own power by q
    pub central_fixed : (z : C) → ((y : G) → T.mul z (K.unit y) ≡ T.mul (K.unit y) z) → ring_power T z q ≡ z
    central_fixed z central =
        let some : 0 < F.size = omega (arith, F.index_below P.one) in
        K.spans (ring_power T z q)
        ∙ ap (λ f. ring_sum T F.size (λ i. K.scale (f (F.at i)) (K.unit (F.at i))))
        (fun_ext
        (λ x. multiples_equal R F.size (λ y. characteristic.cancels F.size y some over) (K.coordinate (ring_power T z q) x) (K.coordinate z x)
        (sym (spread_central x (ring_power T z q) (λ y. power_commutes T z (K.unit y) (central y) q)) ∙ spread_power x z ∙ spread_central x z central)))
        ∙ sym (K.spans z)
