-- The roots of the minimal polynomial of a linear map are the numbers that have an eigenvector.
use Rattle.algebra.proofs.Names.{◌≡◌, inl, inr, List, [], ◌∷◌, ◌++◌, sym, ◌∙◌, ap, ap₂, subst, arith, CommRing, Field, LinearMap, act, IsStable}
use Rattle.algebra.specs.Polynomials.{value, AllNought, quotient}
use Rattle.algebra.specs.MinimalPolynomials.{IsMinimalPolynomial, IsScaled, HasNoEigenvector}
use Rattle.algebra.proofs.RingLaws.{neg_mul, mul_neg, neg_add, neg_nought, mul_nought, ring_rules}
use Rattle.algebra.proofs.FieldLaws.{decide}
use Rattle.algebra.proofs.PolynomialLaws.{value_nil, value_cons, length_quotient, value_constant, quotient_nought}
use Rattle.algebra.proofs.LinearMaps.{plus_rules, horner_nil, horner_cons, move_none, scale_none, none_plus, plus_left_comm, back}

module _ {A V : Type 0} {R : CommRing A} (T : LinearMap R V) where
  -- T v - a v
  abbrev less : A → V → V
  less a v = T.add (T.map v) (T.scale (R.neg a) v)

  -- c v - c v = 0
  gone : (c : A) (v : V) → T.add (T.scale c v) (T.scale (R.neg c) v) ≡ T.nought
  gone c v = sym (T.scale_sum c (R.neg c) v) ∙ ap (λ d. T.scale d v) (R.add_neg c) ∙ T.scale_zero v

  -- - a (w v) + (a w) v = 0
  opposite : (a w : A) (v : V) → T.add (T.scale (R.neg a) (T.scale w v)) (T.scale (R.mul a w) v) ≡ T.nought
  opposite a w v =
      ap (λ z. T.add z (T.scale (R.mul a w) v)) (sym (T.scale_product (R.neg a) w v) ∙ ap (λ c. T.scale c v) (neg_mul R a w))
      ∙ T.add_comm (T.scale (R.neg (R.mul a w)) v) (T.scale (R.mul a w) v) ∙ gone (R.mul a w) v

  -- T f(T) v = (T - a) q(T) v + a f(a) v, for the quotient q
  division_acts : (f : List A) (a : A) (v : V)
      → T.map (act T f v) ≡ T.add (less a (act T (quotient R f a) v)) (T.scale (R.mul a (value R f a)) v)
  unfolding quotient
  division_acts [] a v = simp (horner_nil, move_none, scale_none, value_nil, mul_nought, T.scale_zero, plus_rules, T)
  division_acts (d ∷ f) a v =
      let q : V = act T (quotient R f a) v in
      let w : A = R.add d (R.mul a (value R f a)) in
      let p : V = T.add (T.scale w v) (T.map q) in
      let inner : T.add (T.scale d v) (T.map (act T f v)) ≡ T.add p (T.scale (R.neg a) q) =
      ap (T.add (T.scale d v)) (division_acts f a v) ∙ simp (T.scale_sum, plus_rules, T) in
      let outer : T.add (less a p) (T.scale (R.mul a w) v) ≡ T.add (T.add (T.map p) (T.scale (R.neg a) (T.map q))) (T.add (T.scale (R.neg a) (T.scale w v)) (T.scale (R.mul a w) v)) =
      ap (λ z. T.add (T.add (T.map p) z) (T.scale (R.mul a w) v)) (T.scale_add (R.neg a) (T.scale w v) (T.map q))
      ∙ simp (plus_rules, T) in
      ap T.map (horner_cons T d f v T.nought ∙ inner) ∙ T.map_add p (T.scale (R.neg a) q)
      ∙ ap (T.add (T.map p)) (T.map_scale (R.neg a) q)
      ∙ sym (T.add_nought (T.add (T.map p) (T.scale (R.neg a) (T.map q))))
      ∙ ap (T.add (T.add (T.map p) (T.scale (R.neg a) (T.map q)))) (sym (opposite a w v))
      ∙ sym outer
      ∙ sym (ap (λ z. T.add (less a z) (T.scale (R.mul a (value R (d ∷ f) a)) v)) (horner_cons T (value R (d ∷ f) a) (quotient R f a) v T.nought)
      ∙ ap (λ c. T.add (less a (T.add (T.scale c v) (T.map q))) (T.scale (R.mul a c) v)) (value_cons R d f a))

  -- f(T) v = (T - a) q(T) v, for a root a of f = d + x g and the quotient q
  root_splits : (d : A) (g : List A) (a : A) (v : V) → value R (d ∷ g) a ≡ R.nought → act T (d ∷ g) v ≡ less a (act T (quotient R g a) v)
  root_splits d g a v root =
      let q : V = act T (quotient R g a) v in
      horner_cons T d g v T.nought ∙ ap (T.add (T.scale d v)) (division_acts g a v)
      ∙ plus_left_comm T (T.scale d v) (less a q) (T.scale (R.mul a (value R g a)) v)
      ∙ ap (T.add (less a q)) (sym (T.scale_sum d (R.mul a (value R g a)) v) ∙ ap (λ c. T.scale c v) (sym (value_cons R d g a) ∙ root) ∙ T.scale_zero v)
      ∙ T.add_nought (less a q)

  -- x + y + z + w = x + w where y + z = 0
  drop_middle : (x y z w : V) → T.add y z ≡ T.nought → T.add (T.add x y) (T.add z w) ≡ T.add x w
  drop_middle x y z w e =
      let turned : T.add (T.add x y) (T.add z w) ≡ T.add x (T.add (T.add y z) w) = simp (plus_rules, T) in
      turned ∙ ap (λ g. T.add x (T.add g w)) e ∙ ap (T.add x) (none_plus T w)

  -- T (x - u v) + u (T v - a v) = c v + T x - (c + a u) v
  value_step : (c a u : A) (x v : V)
      → T.add (T.map (T.add x (T.scale (R.neg u) v))) (T.scale u (T.add (T.map v) (T.scale (R.neg a) v)))
      ≡ T.add (T.add (T.scale c v) (T.map x)) (T.scale (R.neg (R.add c (R.mul a u))) v)
  value_step c a u x v =
      ap₂ T.add (T.map_add x (T.scale (R.neg u) v) ∙ ap (T.add (T.map x)) (T.map_scale (R.neg u) v)) (T.scale_add u (T.map v) (T.scale (R.neg a) v))
      ∙ drop_middle (T.map x) (T.scale (R.neg u) (T.map v)) (T.scale u (T.map v)) (T.scale u (T.scale (R.neg a) v)) (T.add_comm (T.scale (R.neg u) (T.map v)) (T.scale u (T.map v)) ∙ gone u (T.map v))
      ∙ ap (T.add (T.map x)) (sym (T.scale_product u (R.neg a) v) ∙ ap (λ d. T.scale d v) (mul_neg R u a ∙ ap R.neg (R.mul_comm u a)))
      ∙ sym (drop_middle (T.map x) (T.scale c v) (T.scale (R.neg c) v) (T.scale (R.neg (R.mul a u)) v) (gone c v))
      ∙ ap₂ T.add (T.add_comm (T.map x) (T.scale c v)) (sym (T.scale_sum (R.neg c) (R.neg (R.mul a u)) v) ∙ ap (λ d. T.scale d v) (sym (neg_add R c (R.mul a u))))

module _ {A V : Type 0} {R : CommRing A} (F : Field R) (T : LinearMap R V) (W : V → Type 0) where
  not_all_nought : (f lower : List A) → f ≡ lower ++ R.one ∷ [] → AllNought R f → ⊥
  unfolding AllNought
  not_all_nought f lower e h = last lower (subst (AllNought R) e h)
    where
      last : (g : List A) → AllNought R (g ++ R.one ∷ []) → ⊥
      last [] h = F.one_is_not_nought h.0
      last (c ∷ g) h = last g h.1

  -- a root has an eigenvector
  pub root_has_eigenvector : (f : List A) (a : A) → IsMinimalPolynomial T W f → value R f a ≡ R.nought → HasNoEigenvector T W a → ⊥
  unfolding AllNought
  root_has_eigenvector [] a m root none = not_all_nought [] m.lower m.monic tt
  root_has_eigenvector (d ∷ g) a m root none =
      let nothing : AllNought R (quotient R g a) = m.least (quotient R g a) (omega (arith, length_quotient R g a))
      (λ v. none (act T (quotient R g a) v) (subst W (root_splits T d g a v root) (m.annihilates v))) in
      let rest : AllNought R g = quotient_nought R g a nothing in
      not_all_nought (d ∷ g) m.lower m.monic (sym (value_constant R g a d rest) ∙ root, rest)

  module _ (stable : IsStable T W) where
    -- what T multiplies by a, a polynomial at T multiplies by its value
    value_acts : (f : List A) (a : A) (v : V) → IsScaled T W a v → W (T.add (act T f v) (T.scale (R.neg (value R f a)) v))
    value_acts [] a v h =
        let nothing : T.add (act T [] v) (T.scale (R.neg (value R [] a)) v) ≡ T.nought =
        simp (horner_nil, value_nil, neg_nought, T.scale_zero, T.add_nought) in
        subst W (sym nothing) stable.none
    value_acts (c ∷ f) a v h =
        let x : V = act T f v in
        let u : A = value R f a in
        let moved : W (T.map (T.add x (T.scale (R.neg u) v))) = stable.move (T.add x (T.scale (R.neg u) v)) (value_acts f a v h) in
        let scaled : W (T.scale u (T.add (T.map v) (T.scale (R.neg a) v))) = stable.scale u (T.add (T.map v) (T.scale (R.neg a) v)) h in
        subst W (value_step T c a u x v ∙ sym (ap₂ (λ y z. T.add y (T.scale (R.neg z) v)) (horner_cons T c f v T.nought) (value_cons R c f a)))
        (stable.plus (T.map (T.add x (T.scale (R.neg u) v))) (T.scale u (T.add (T.map v) (T.scale (R.neg a) v))) moved scaled)

    -- a number with an eigenvector is a root
    pub eigenvalue_is_root : (f : List A) (a : A) (v : V) → IsMinimalPolynomial T W f → IsScaled T W a v → (W v → ⊥)
        → value R f a ≡ R.nought
    eigenvalue_is_root f a v m h outside = elim (decide R F (value R f a)) [
      | inl root ↦ root
      | inr some ↦
          let u : A = value R f a in
          let y : V = act T f v in
          let turned : T.add y (T.scale (R.neg u) v) ≡ T.add (T.scale (R.neg u) v) (T.scale R.one y) =
          simp (T.scale_one, plus_rules, T) in
          let multiple : W (T.scale (R.neg u) v) =
          subst W (ap (λ z. T.add z (T.scale (R.neg R.one) y)) turned ∙ back T R.one (T.scale (R.neg u) v) y)
          (stable.plus (T.add y (T.scale (R.neg u) v)) (T.scale (R.neg R.one) y) (value_acts f a v h) (stable.scale (R.neg R.one) y (m.annihilates v))) in
          let inverse : R.mul (R.neg (F.inverse u)) (R.neg u) ≡ R.mul u (F.inverse u) = simp (ring_rules, R) in
          absurd (outside (subst W (sym (T.scale_product (R.neg (F.inverse u)) (R.neg u) v) ∙ ap (λ c. T.scale c v) (inverse ∙ F.mul_inverse u some) ∙ T.scale_one v)
          (stable.scale (R.neg (F.inverse u)) (T.scale (R.neg u) v) multiple)))
    ]
