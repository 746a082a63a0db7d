-- Rules of fit over a commutative ring: which results are given, and which listed sums overflow (this project's rules).
use Rattle.std.specs.Prelude.{◌≡◌, ℕ, not, ◌&&◌, ◌||◌, map, Option, is_some, IfSome, Bool, true, false, List, [], ◌∷◌, ◌++◌, IsPermutation, refl}
use Rattle.algebra.specs.Structures.{CommRing}
use Rattle.std.specs.List.{range_with_len}
use Rattle.scan.specs.First.{all_below}
use Rattle.algebra.specs.Sums.{sum_list, power}

pub record FitRules {A : Type 0} (R : CommRing A) : Type 0 where
  -- a sum or a root multiple is given where its value fits
  pub fits : A → Bool
  -- a product is given where its two factors fit together
  pub product_fits : A → A → Bool
  -- the terms of a listed sum are too great together
  pub overflows : List A → Bool
  -- what doesn't overflow doesn't overflow with fewer terms,
  pub front : (xs ys : List A) → overflows (xs ++ ys) ≡ false → overflows xs ≡ false
  -- nor in another order,
  pub order : (xs ys : List A) → IsPermutation xs ys → overflows xs ≡ false → overflows ys ≡ false
  -- and its sum fits
  pub sum_fits : (xs : List A) → overflows xs ≡ false → fits (sum_list R xs) ≡ true
  -- one term alone overflows exactly where it doesn't fit
  pub one_term : (x : A) → overflows (x ∷ []) ≡ not (fits x)

-- every result fits and no listed sum overflows
abbrev pub no_limits : {A : Type 0} (R : CommRing A) → FitRules R
no_limits R = record {
  fits = λ x. true;
  product_fits = λ x y. true;
  overflows = λ xs. false;
  front = λ xs ys h. h;
  order = λ xs ys p h. h;
  sum_fits = λ xs h. refl;
  one_term = λ x. refl;
}

-- the steps of the term z^e (a b) fit: its product, then its multiplication by the root
abbrev pub term_fits : {A : Type 0} (R : CommRing A) → FitRules R → A → ℕ → A → A → Bool
term_fits R rules z e a b = rules.product_fits a b && rules.fits (R.mul (power R z e) (R.mul a b))

-- the listed sum of n terms overflows: a step of one of them doesn't fit, or they are too great together
unfoldable pub sum_overflows : {A : Type 0} (R : CommRing A) → FitRules R → ℕ → (ℕ → Bool) → (ℕ → A) → Bool
sum_overflows R rules n steps_fit term = not (all_below n steps_fit) || rules.overflows (map term (range_with_len 0 n))

-- an answer is this term's: none where its steps don't fit, else one that stands for it
pub record IsTerm {E A : Type 0} (of : E → A) (steps_fit : Bool) (value : A) (answer : Option E) : Type 0 where
  pub there : is_some answer ≡ steps_fit
  pub stands : IfSome answer (λ a. of a ≡ value)
