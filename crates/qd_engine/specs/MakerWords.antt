-- The words that name a group with a cocycle: a family, and its numbers.
use Rattle.std.specs.Prelude.{ℕ, List, [], ◌∷◌, codes, ◌&&◌, ◌==◌, nat_le, Option, Some, None, if◌then◌else◌}
use Rattle.std.specs.Option.{option_map, option_and_then}
use Rattle.named_cocycles.specs.declared.maker.Maker.{Maker}
use Rattle.named_cocycles.specs.declared.maker.Maker.TheVariants.{Cyclic, Product, TypeTwo, TypeThree, Dihedral, Dicyclic, Semidirect}
use Rattle.qd_doc.specs.Kinds.{is_word}
use Rattle.qd_engine.specs.NumberWords.{number_word}

-- the numbers that words spell, one after the other, where each of them spells one
abbrev pub numbers_of : List (List ℕ) → Option (List ℕ)
numbers_of [] = Some []
numbers_of (word ∷ words) = option_and_then (λ n. option_map (λ ns. n ∷ ns) (numbers_of words)) (number_word word)

-- ---- the makers of a family, by how many numbers it has

abbrev pub maker_of_one : List ℕ → ℕ → Option Maker
maker_of_one family n = if is_word family (codes "dicyclic") then Some (Dicyclic n) else None

abbrev pub maker_of_two : List ℕ → ℕ → ℕ → Option Maker
maker_of_two family n p =
    if is_word family (codes "cyclic") then Some (Cyclic n p)
    else if is_word family (codes "dihedral") && nat_le p 1 then Some (Dihedral n (p == 1))
    else None

abbrev pub maker_of_three : List ℕ → ℕ → ℕ → ℕ → Option Maker
maker_of_three family a b c =
    if is_word family (codes "product") then Some (Product a b c)
    else if is_word family (codes "type2") then Some (TypeTwo a b c)
    else if is_word family (codes "semidirect") then Some (Semidirect a b c)
    else None

abbrev pub maker_of_four : List ℕ → ℕ → ℕ → ℕ → ℕ → Option Maker
maker_of_four family a b c p = if is_word family (codes "type3") then Some (TypeThree a b c p) else None

abbrev pub maker_by : List ℕ → List ℕ → Option Maker
maker_by family [] = None
maker_by family (n ∷ []) = maker_of_one family n
maker_by family (n ∷ p ∷ []) = maker_of_two family n p
maker_by family (a ∷ b ∷ c ∷ []) = maker_of_three family a b c
maker_by family (a ∷ b ∷ c ∷ p ∷ []) = maker_of_four family a b c p
maker_by family (a ∷ b ∷ c ∷ p ∷ next ∷ rest) = None

-- the maker of a family and the words of its numbers
abbrev pub maker_of_family : List ℕ → List (List ℕ) → Option Maker
maker_of_family family numbers = option_and_then (maker_by family) (numbers_of numbers)

-- the maker that words name
abbrev pub maker_of : List (List ℕ) → Option Maker
maker_of [] = None
maker_of (family ∷ numbers) = maker_of_family family numbers
