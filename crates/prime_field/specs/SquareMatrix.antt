-- Square matrices of numbers.
use Rattle.std.specs.Prelude.{◌≡◌, ℕ, ◌+◌, ◌*◌, ◌<◌, ◌≤◌, List, length, slice_index}

-- a square matrix, row after row
pub record Square : Type 0 where
  pub width : ℕ
  pub numbers : List ℕ

-- the number in row i at place j
abbrev pub entry : Square → ℕ → ℕ → ℕ
entry m i j = slice_index m.numbers (i * m.width + j)

-- as many numbers as a square matrix of a width from 1 to 60 has
pub record IsSquare (m : Square) : Type 0 where
  pub from_one : 1 ≤ m.width
  pub to_sixty : m.width ≤ 60
  pub square : length m.numbers ≡ m.width * m.width

-- every number of the matrix is below q
abbrev pub HasEntriesBelow : ℕ → Square → Type 0
HasEntriesBelow q m = (i j : ℕ) → i < m.width → j < m.width → entry m i j < q
