-- Long division is division: a polynomial is the quotient times the divisor, plus the remainder.
use Rattle.cyclotomic.proofs.Names.{◌≡◌, ℕ, zero, suc, List, [], ◌∷◌, refl, sym, ap, ◌∙◌, ℤ, pos, ◌+ℤ◌, ◌*ℤ◌, plus, times, leading, coefficient, IsSamePolynomial, division, remainder, LinearMap, horner, act, act-plus, act-times, division-sum}
use Rattle.algebra.proofs.Columns.{sequences}
use Rattle.cyclotomic.specs.Laws.Integers as Z
use Rattle.cyclotomic.specs.Laws.Integers.{integers}

-- ---- sequences of whole numbers, with the map that shifts them by one place
shifted : (ℕ → ℤ) → ℕ → ℤ
shifted f zero = pos 0
shifted f (suc i) = f i

shifted-add : (f g : ℕ → ℤ) (i : ℕ) → shifted (λ j. f j +ℤ g j) i ≡ shifted f i +ℤ shifted g i
unfolding shifted
shifted-add f g zero = refl
shifted-add f g (suc i) = refl

shifted-scale : (c : ℤ) (f : ℕ → ℤ) (i : ℕ) → shifted (λ j. c *ℤ f j) i ≡ c *ℤ shifted f i
unfolding shifted
shifted-scale c f zero = sym (Z.times_zero c)
shifted-scale c f (suc i) = refl

abbrev shifts : LinearMap (ℕ → ℤ)
shifts = sequences integers shifted shifted-add shifted-scale

-- the sequence of the polynomial 1
first_place : ℕ → ℤ
first_place zero = pos 1
first_place (suc i) = pos 0

coefficient-act : (p : List ℤ) (i : ℕ) → coefficient p i ≡ act shifts p first_place i
unfolding coefficient horner first_place shifted
coefficient-act [] i = refl
coefficient-act (a ∷ p) zero = sym (Z.plus_zero (a *ℤ pos 1) ∙ Z.times_comm a (pos 1) ∙ Z.one_times a)
coefficient-act (a ∷ p) (suc i) =
    coefficient-act p i ∙ sym (ap (λ z. z +ℤ act shifts p first_place i) (Z.times_zero a) ∙ Z.zero_plus (act shifts p first_place i))

-- p = q m + r
pub long_division : (m p : List ℤ) → leading m ≡ pos 1 → IsSamePolynomial p (plus (times (division m p).0 m) (remainder m p))
long_division m p monic i =
    let q = (division m p).0 in
    let r = remainder m p in
    let both : act shifts p first_place ≡ act shifts (plus (times q m) r) first_place =
    division-sum shifts m p first_place monic
    ∙ sym (act-plus shifts (times q m) r first_place ∙ ap (λ f. shifts.add f (act shifts r first_place)) (act-times shifts q m first_place)) in
    coefficient-act p i ∙ ap (λ f. f i) both ∙ sym (coefficient-act (plus (times q m) r) i)
