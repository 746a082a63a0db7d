-- The lines of the conjugacy classes, each with a rank: that of the centre of its twisted group algebra, and the line of their sum.
use Rattle.std.specs.Prelude.{ℕ, List, length, sum, slice_index, codes}
use Rattle.std.specs.Fmt.{decimal}
use Rattle.group_table.specs.Group.{Table}
use Rattle.classes.specs.Conjugacy.{representatives, representative_at, members_of, centraliser_of}
use Rattle.data_print.specs.Text.{◌⧺◌, first_lines}

-- the line of the class with the number c, whose rank is given
abbrev pub class_line : Table → ℕ → ℕ → List ℕ
class_line t c rank =
    let a = representative_at t c in
    codes "class " ⧺ decimal c ⧺ codes " at " ⧺ decimal a
    ⧺ codes " size " ⧺ decimal (length (members_of t a))
    ⧺ codes " centraliser " ⧺ decimal (length (centraliser_of t a))
    ⧺ codes " rank " ⧺ decimal rank ⧺ codes "\n"

-- the lines of all classes, in order
abbrev pub class_lines : Table → List ℕ → List ℕ
class_lines t ranks = first_lines (λ c. class_line t c (slice_index ranks c)) (length (representatives t))

-- the line of the sum of the ranks, by the theory the number of simple modules
abbrev pub simples_line : List ℕ → List ℕ
simples_line ranks = codes "simples " ⧺ decimal (sum ranks) ⧺ codes "\n"

-- the lines of all classes, and that of the sum of their ranks
abbrev pub classes_text : Table → List ℕ → List ℕ
classes_text t ranks = class_lines t ranks ⧺ simples_line ranks
