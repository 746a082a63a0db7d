use Rattle.group_table.proofs.Sentences.{product_below}
use Rattle.group_table.proofs.laws.associates.Goals as goal

pub product-requires-2-clause-g_below : goal.product-requires-2-clause-g_below
product-requires-2-clause-g_below c =
    rw c.product.ensures.product (product_below (record { order = c.args.n; entries = c.args.table.now }) c.args.g c.args.h c.requires.entries c.requires.g_below c.requires.h_below)

pub product-requires-4-clause-h_below : goal.product-requires-4-clause-h_below
product-requires-4-clause-h_below c =
    rw c.product-3.ensures.product (product_below (record { order = c.args.n; entries = c.args.table.now }) c.args.h c.args.k c.requires.entries c.requires.h_below c.requires.k_below)
