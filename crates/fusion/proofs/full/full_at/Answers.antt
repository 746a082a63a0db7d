use Rattle.fusion.proofs.Names.{◌≡◌, ◌+◌, ◌*◌, ℕ, List, Option, arith, subst, get_or, Box, Monomial, IsFullRow, value_or_nought, full_term}
use Rattle.fusion.proofs.Lists.{item_read}
use Rattle.fusion.proofs.Places.{row_read}
use Rattle.fusion.proofs.full.full_at.Goals as goal
use Rattle.fusion.proofs.full.full_at.Given.{Over}
use Rattle.fusion.proofs.full.full_at.Goals.{After-index-row}

-- the row that was read
row_is : (g : Over) (c : After-index-row g) → IsFullRow g.row.K c.args.simples.now c.args.i c.args.g c.index-row.result.now.items
row_is g c =
    let row = c.index-row.result.now in
    row_read g.row.K c.args.simples.now c.args.values.now.items c.requires.kept c.args.i c.args.g row c.requires.i_below c.requires.g_below c.requires.class
    (subst (λ n. row ≡ get_or c.args.values.now.items (c.args.i * n + c.args.g) row) c.order-order.ensures.order c.index-row.ensures)

pub index-requires : goal.index-requires
index-requires g c =
    let row = c.index-row.result.now in
    let is = row_is g (goal.at.index-requires g c).After-index-row in omega (arith, c.requires.x_below, is.count_is, row.ok.0)

pub returns : goal.returns
returns g c =
    let s = c.args.simples.now in
    let holds : ℕ → Option (Box (List Monomial)) → Type 0 = λ x u. value_or_nought g.row.K u ≡ (full_term g.row.K s c.args.i c.args.g x).value in
    record {
      value =
          item_read holds s.cocycle.group.order c.index-row.result.now.items c.args.x c.index.result.now (row_is g (goal.at.returns g c).After-index-row) c.requires.x_below c.index.ensures;
    }
