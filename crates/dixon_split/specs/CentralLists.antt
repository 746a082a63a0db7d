-- Lists of the values of central characters.
use Rattle.std.specs.Prelude.{ℕ, zero, suc, ◌/◌, List, [], ◌∷◌, length, take, drop, slice_index, slice_index_or}

-- lists of numbers, each as long as the width says
pub record CentralLists : Type 0 where
  pub width : ℕ
  pub lists : List (List ℕ)

-- the first n lists of w numbers each that stand one after another
unfoldable pub lists_of : ℕ → ℕ → List ℕ → List (List ℕ)
lists_of w zero numbers = []
lists_of w (suc n) numbers = take w numbers ∷ lists_of w n (drop w numbers)

-- the numbers as lists of width w, one after another
abbrev pub central_lists : ℕ → List ℕ → CentralLists
central_lists w numbers = record { width = w; lists = lists_of w (length numbers / w) numbers }

-- the value at class c in list i
abbrev pub central_value : CentralLists → ℕ → ℕ → ℕ
central_value central i c = slice_index (slice_index_or central.lists i []) c
