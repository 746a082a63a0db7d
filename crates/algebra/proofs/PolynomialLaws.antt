-- Values of polynomials, and roots split off.
use Rattle.algebra.proofs.Names.{◌≡◌, suc, List, [], ◌∷◌, length, refl, sym, ◌∙◌, ap, CommRing, value, AllNought, quotient}
use Rattle.algebra.proofs.RingLaws.{ring_rules, mul_nought}

module _ {A : Type 0} (R : CommRing A) where
  pub value_nil : (x : A) → value R [] x ≡ R.nought
  unfolding value
  value_nil x = refl

  pub value_cons : (c : A) (f : List A) (x : A) → value R (c ∷ f) x ≡ R.add c (R.mul x (value R f x))
  unfolding value
  value_cons c f x = refl

  pub length_quotient : (f : List A) (a : A) → length (quotient R f a) ≡ length f
  unfolding quotient
  length_quotient [] a = refl
  length_quotient (c ∷ f) a = ap suc (length_quotient f a)

  division_step : (x a c u v b : A) → R.mul x u ≡ R.add (R.mul (R.add x (R.neg a)) b) (R.mul a v)
      → R.mul x (R.add c (R.mul x u)) ≡ R.add (R.mul (R.add x (R.neg a)) (R.add (R.add c (R.mul a v)) (R.mul x b))) (R.mul a (R.add c (R.mul a v)))
  division_step x a c u v b h = ap (λ z. R.mul x (R.add c z)) h ∙ simp (ring_rules, R)

  -- x f(x) = (x - a) q(x) + a f(a)
  pub division : (f : List A) (a x : A)
      → R.mul x (value R f x) ≡ R.add (R.mul (R.add x (R.neg a)) (value R (quotient R f a) x)) (R.mul a (value R f a))
  unfolding quotient
  division [] a x = simp (value_nil, ring_rules, R)
  division (c ∷ f) a x =
      rw (value_cons c f x, value_cons (value R (c ∷ f) a) (quotient R f a) x, value_cons c f a)
      (division_step x a c (value R f x) (value R f a) (value R (quotient R f a) x) (division f a x))

  -- a polynomial whose coefficients but the first are nought has the first as its value
  pub value_constant : (f : List A) (a c : A) → AllNought R f → value R (c ∷ f) a ≡ c
  unfolding AllNought
  value_constant [] a c h = simp (value_cons, value_nil, mul_nought, R.add_nought)
  value_constant (d ∷ f) a c h =
      let rest : value R (d ∷ f) a ≡ R.nought = value_constant f a d h.1 ∙ h.0 in
      value_cons c (d ∷ f) a ∙ simp (rest, mul_nought, R.add_nought)

  -- a polynomial with root a is nought where its quotient is
  pub quotient_nought : (f : List A) (a : A) → AllNought R (quotient R f a) → AllNought R f
  unfolding quotient AllNought
  quotient_nought [] a h = tt
  quotient_nought (c ∷ f) a h =
      let inner : AllNought R f = quotient_nought f a h.1 in
      (sym (value_constant f a c inner) ∙ h.0, inner)
