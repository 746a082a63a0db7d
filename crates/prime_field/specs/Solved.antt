-- Solving linear equations over a field one after another: what is kept is, for each place, the column of the basis that begins
-- there, or noughts where none does.
use Rattle.std.specs.Prelude.{◌≡◌, ◌≢◌, ◌⊎◌, ℕ, ◌-◌, ◌/◌, ◌%◌, ◌<◌}
use Rattle.algebra.specs.Structures.{CommRing}
use Rattle.algebra.specs.Sums.{sum_below}
use Rattle.algebra.specs.Matrices.{Solves, matrix_power}

-- what stands at the place f in the kept rows: a row that begins there with 1, or noughts
pub record IsFree {A : Type 0} (R : CommRing A) (w : ℕ) (p : ℕ → ℕ → A) (f : ℕ) : Type 0 where
  pub one : p f f ≡ R.one
  pub before : (m : ℕ) → m < f → p f m ≡ R.nought
  pub others : (l : ℕ) → l < w → l ≢ f → p l f ≡ R.nought

abbrev pub IsGone : {A : Type 0} (R : CommRing A) (w : ℕ) (p : ℕ → ℕ → A) (f : ℕ) → Type 0
IsGone R w p f = (m : ℕ) → m < w → p f m ≡ R.nought

-- the rows p below w stand for the columns of width w that solve the first n equations e
pub record IsSolved {A : Type 0} (R : CommRing A) (n w : ℕ) (e p : ℕ → ℕ → A) : Type 0 where
  pub solves : (f : ℕ) → f < w → Solves R n w e (p f)
  pub complete : (v : ℕ → A) → Solves R n w e v → (m : ℕ) → m < w → sum_below R w (λ f. R.mul (v f) (p f m)) ≡ v m
  pub reduced : (f : ℕ) → f < w → IsFree R w p f ⊎ IsGone R w p f

-- an equation for each place of a w by w matrix, column after column: the numbers there of its powers from the w-th down to the 0-th
abbrev pub power_equations : {A : Type 0} (R : CommRing A) (w : ℕ) (a : ℕ → ℕ → A) → ℕ → ℕ → A
power_equations R w a k t = matrix_power R w a (w - t) (k % w) (k / w)

-- f is the last place below n at which x isn't 0, or 0 where there is none
pub record IsLastNonzero (n : ℕ) (x : ℕ → ℕ) (f : ℕ) : Type 0 where
  pub below : f < n
  pub later : (g : ℕ) → f < g → g < n → x g ≡ 0
  pub nonzero : x f ≡ 0 → f ≡ 0
