-- The basis in reduced form of the kernel of a matrix of residues (textbook).
use Rattle.std.specs.Prelude.{◌≡◌, ℕ, ◌*◌, ◌/◌, ◌<◌, List, length, true}
use Rattle.algebra.specs.Below.{Below}
use Rattle.prime_field.specs.Moduli.{is_modulus}
use Rattle.prime_field.specs.Field.{field}
use Rattle.algebra.specs.Matrices.{Solves, IsCombination, IsReduced}
use Rattle.prime_field.specs.ResidueLists.{AreBelow, matrix_of}

-- the rows of width w in the list are the basis in reduced form of the kernel of the matrix with these numbers
pub record IsKernelBasis (q : ℕ) (listed : is_modulus q ≡ true) (w : ℕ) (numbers basis : List ℕ) : Type 0 where
  pub whole_rows : length basis ≡ length basis / w * w
  pub below : AreBelow q basis
  pub in_kernel : (i : ℕ) → i < length basis / w → Solves (field q listed) w w (matrix_of q listed w numbers) (matrix_of q listed w basis i)
  pub spans : (v : ℕ → Below q) → Solves (field q listed) w w (matrix_of q listed w numbers) v → (x : ℕ → Below q) × IsCombination (field q listed) (length basis / w) w (matrix_of q listed w basis) x v
  pub reduced : IsReduced (field q listed) (length basis / w) w (matrix_of q listed w basis)
