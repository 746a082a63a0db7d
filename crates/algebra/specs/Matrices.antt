-- Matrices and columns over a commutative ring (textbook). A column is a function of its place, a matrix one of a row and a place.
use Rattle.std.specs.Prelude.{◌≡◌, ◌≢◌, ℕ, zero, suc, ◌-◌, ◌<◌, nat_eq}
use Rattle.algebra.specs.Structures.{CommRing}
use Rattle.algebra.specs.Sums.{sum_below, pick}

module _ {A : Type 0} (R : CommRing A) where
  -- x 0 y 0 + x 1 y 1 + .., over the places below w
  unfoldable pub dot : ℕ → (ℕ → A) → (ℕ → A) → A
  dot w x y = sum_below R w (λ j. R.mul (x j) (y j))

  -- the matrix a, of rows of width w, times a column
  abbrev pub times_column : ℕ → (ℕ → ℕ → A) → (ℕ → A) → ℕ → A
  times_column w a v i = dot w (a i) v

  -- the number at row i and place j of the k-th power of a, w by w
  unfoldable pub matrix_power : ℕ → (ℕ → ℕ → A) → ℕ → ℕ → ℕ → A
  matrix_power w a zero i j = pick R (nat_eq i j) R.one
  matrix_power w a (suc k) i j = dot w (a i) (λ l. matrix_power w a k l j)

  -- the number at row i and place j of f 0 + f 1 a + .. + f (n - 1) a^(n - 1)
  unfoldable pub matrix_polynomial : ℕ → (ℕ → ℕ → A) → ℕ → (ℕ → A) → ℕ → ℕ → A
  matrix_polynomial w a n f i j = sum_below R n (λ k. R.mul (f k) (matrix_power w a k i j))

-- the column v solves the equations that the first n rows of e say: each row times v is nought
abbrev pub Solves : {A : Type 0} (R : CommRing A) (n w : ℕ) (e : ℕ → ℕ → A) (v : ℕ → A) → Type 0
Solves R n w e v = (i : ℕ) → i < n → times_column R w e v i ≡ R.nought

-- the column v is the combination of the first n rows of b with the numbers x
abbrev pub IsCombination : {A : Type 0} (R : CommRing A) (n w : ℕ) (b : ℕ → ℕ → A) (x v : ℕ → A) → Type 0
IsCombination R n w b x v = (m : ℕ) → m < w → v m ≡ sum_below R n (λ i. R.mul (x i) (b i m))

-- the first n rows of b are in reduced form: the first number of each that isn't nought is 1, it stands further right than that
-- of the row before, and every other row has nought at its place
pub record IsReduced {A : Type 0} (R : CommRing A) (n w : ℕ) (b : ℕ → ℕ → A) : Type 0 where
  -- the place of the first number of a row that isn't nought
  pub place : ℕ → ℕ
  pub place_below : (i : ℕ) → i < n → place i < w
  pub begins_with_one : (i : ℕ) → i < n → b i (place i) ≡ R.one
  pub nought_before : (i m : ℕ) → i < n → m < place i → b i m ≡ R.nought
  pub further_right : (i j : ℕ) → i < j → j < n → place i < place j
  pub nought_in_others : (i j : ℕ) → i < n → j < n → i ≢ j → b j (place i) ≡ R.nought

-- the polynomial with the n coefficients f is nought at a
abbrev pub IsAnnihilator : {A : Type 0} (R : CommRing A) (w : ℕ) (a : ℕ → ℕ → A) (n : ℕ) (f : ℕ → A) → Type 0
IsAnnihilator R w a n f = (i j : ℕ) → i < w → j < w → matrix_polynomial R w a n f i j ≡ R.nought

-- the n coefficients f are those of the minimal polynomial of a: monic, nought at a, and no polynomial with fewer coefficients is
-- nought at a but the one whose coefficients are all nought (textbook)
pub record IsMinimal {A : Type 0} (R : CommRing A) (w : ℕ) (a : ℕ → ℕ → A) (n : ℕ) (f : ℕ → A) : Type 0 where
  pub some : 0 < n
  pub monic : f (n - 1) ≡ R.one
  pub annihilates : IsAnnihilator R w a n f
  pub least : (m : ℕ) (g : ℕ → A) → m < n → IsAnnihilator R w a m g → (k : ℕ) → k < m → g k ≡ R.nought
