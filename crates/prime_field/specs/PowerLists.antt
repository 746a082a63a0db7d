-- Lists of the powers of a matrix of residues.
use Rattle.std.specs.Prelude.{◌≡◌, ℕ, ◌*◌, ◌/◌, ◌%◌, ◌<◌, List, length, true}
use Rattle.prime_field.specs.Moduli.{is_modulus}
use Rattle.prime_field.specs.Field.{field}
use Rattle.algebra.specs.Matrices.{matrix_power}
use Rattle.prime_field.specs.ResidueLists.{AreBelow, matrix_of}

-- the list has the powers 0, 1, .., n - 1 of the matrix with the numbers a, one after another, each column after column
pub record ListsPowers (q : ℕ) (listed : is_modulus q ≡ true) (w : ℕ) (a : List ℕ) (n : ℕ) (powers : List ℕ) : Type 0 where
  pub count : length powers ≡ n * (w * w)
  pub below : AreBelow q powers
  pub each : (k m : ℕ) → k < n → m < w * w → matrix_of q listed (w * w) powers k m ≡ matrix_power (field q listed) w (matrix_of q listed w a) k (m % w) (m / w)
