-- The laws of sums, congruences and twisted algebras that the crate's law functions carry. A commutative ring is taken on
-- the natural numbers, as every countably infinite one is up to names, and a finite group or type on the numbers below its size.
use Rattle.std.specs.Prelude.{◌≡◌, ℕ, ◌+◌, ◌<◌, nat_eq}
use Rattle.algebra.specs.Structures.{CommRing}
use Rattle.algebra.specs.Sums.{sum_below, pick}
use Rattle.algebra.specs.Totals.{Finite, total}
use Rattle.algebra.specs.Groups.{Group}
use Rattle.algebra.specs.Below.{Below}
use Rattle.algebra.specs.Congruences.{Same}
use Rattle.algebra.specs.Roots.{Roots}
use Rattle.algebra.specs.Convolution.{IsTwoCocycle, twisted_convolution}

-- nested sums may be exchanged
abbrev pub SumsExchange : Type 0
SumsExchange = (R : CommRing ℕ) (n m : ℕ) (f : ℕ → ℕ → ℕ) → sum_below R n (λ i. sum_below R m (λ j. f i j)) ≡ sum_below R m (λ j. sum_below R n (λ i. f i j))

-- a constant factor goes into a sum
abbrev pub FactorsGoIn : Type 0
FactorsGoIn = (R : CommRing ℕ) (n c : ℕ) (f : ℕ → ℕ) → R.mul c (sum_below R n f) ≡ sum_below R n (λ i. R.mul c (f i))

-- a sum in which a test leaves the term at a
abbrev pub SumsWithOneTerm : Type 0
SumsWithOneTerm = (R : CommRing ℕ) (n a : ℕ) (f : ℕ → ℕ) → a < n → sum_below R n (λ i. pick R (nat_eq i a) (f i)) ≡ f a

-- the total over a finite type may be taken along a map that has an inverse
abbrev pub TotalsReindex : Type 0
TotalsReindex =
    (R : CommRing ℕ) (n : ℕ) (F : Finite (Below n)) (p q : Below n → Below n) → ((x : Below n) → q (p x) ≡ x) → ((x : Below n) → p (q x) ≡ x)
    → (f : Below n → ℕ) → total R F (λ x. f (p x)) ≡ total R F f

-- from a congruence of p and q to one of l and r with the same difference
abbrev pub CongruencesShift : Type 0
CongruencesShift = (n l r p q : ℕ) → Same n p q → l + q ≡ r + p → Same n l r

-- the twisted group algebra is associative
abbrev pub ConvolutionAssociates : Type 0
ConvolutionAssociates =
    (R : CommRing ℕ) (n m : ℕ) (F : Finite (Below n)) (P : Group (Below n)) (B : Roots R m) (t : Below n → Below n → ℕ) → IsTwoCocycle P m t
    → (p r s : Below n → ℕ) (x : Below n)
    → twisted_convolution R F P B t (twisted_convolution R F P B t p r) s x ≡ twisted_convolution R F P B t p (twisted_convolution R F P B t r s) x
