-- Texts put together piece after piece, and added to a list of bytes.
use Rattle.std.specs.Prelude.{◌≡◌, ℕ, zero, suc, List, [], ◌++◌}

-- one text and then another; it groups to the right, as the pieces are written
infixr 20 ◌⧺◌
abbrev pub ◌⧺◌ : List ℕ → List ℕ → List ℕ
a ⧺ b = a ++ b

-- the first n of these lines, one after the other
unfoldable pub first_lines : (ℕ → List ℕ) → ℕ → List ℕ
first_lines line zero = []
first_lines line (suc n) = first_lines line n ++ line n

-- a front of the text was added
abbrev pub AddsFront : List ℕ → List ℕ → List ℕ → Type 0
AddsFront old new text = (front : List ℕ) × (rest : List ℕ) × (text ≡ front ++ rest) × (new ≡ old ++ front)
