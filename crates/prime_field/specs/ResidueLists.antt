-- Lists of numbers, seen as columns and matrices of residues modulo a listed modulus.
use Rattle.std.specs.Prelude.{◌≡◌, ℕ, ◌+◌, ◌*◌, ◌<◌, List, length, slice_index, true}
use Rattle.algebra.specs.Below.{Below}
use Rattle.prime_field.specs.Moduli.{is_modulus}
use Rattle.prime_field.specs.Field.{field, field_residue}

-- every number of the list is below q
abbrev pub AreBelow : ℕ → List ℕ → Type 0
AreBelow q numbers = (k : ℕ) → k < length numbers → slice_index numbers k < q

module _ (q : ℕ) (listed : is_modulus q ≡ true) where
  -- the column whose residue at place j is that of the j-th number
  abbrev pub column_of : List ℕ → ℕ → Below q
  column_of numbers j = field_residue q listed (slice_index numbers j)

  -- the matrix with rows of width w, one after another
  abbrev pub matrix_of : ℕ → List ℕ → ℕ → ℕ → Below q
  matrix_of w numbers i j = field_residue q listed (slice_index numbers (i * w + j))

-- the list has the values at 0, 1, .., n - 1
pub record IsTabulated (n : ℕ) (value : ℕ → ℕ) (numbers : List ℕ) : Type 0 where
  pub count : length numbers ≡ n
  pub each : (k : ℕ) → k < n → slice_index numbers k ≡ value k

-- a - d c b, modulo q
unfoldable pub minus_multiple : (q : ℕ) → is_modulus q ≡ true → ℕ → ℕ → ℕ → ℕ → ℕ
minus_multiple q listed a d c b =
    ((field q listed).add (field_residue q listed a) ((field q listed).neg ((field q listed).mul ((field q listed).mul (field_residue q listed d) (field_residue q listed c)) (field_residue q listed b)))).value
