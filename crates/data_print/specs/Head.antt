-- The two lines that every report begins with.
use Rattle.std.specs.Prelude.{ℕ, List, codes}
use Rattle.std.specs.Fmt.{decimal}
use Rattle.orders.specs.Order.{exponent_of}
use Rattle.group_table.specs.Group.{product, identity_of}
use Rattle.cochain.specs.Cochain.{Cochain}
use Rattle.data_print.specs.Text.{◌⧺◌}

abbrev pub head_of : Cochain → List ℕ
head_of w =
    codes "group order " ⧺ decimal w.group.order
    ⧺ codes " identity " ⧺ decimal (identity_of w.group)
    ⧺ codes " exponent " ⧺ decimal (exponent_of w.group.order (product w.group) (identity_of w.group))
    ⧺ codes "\ncocycle roots " ⧺ decimal w.roots ⧺ codes "\n"
