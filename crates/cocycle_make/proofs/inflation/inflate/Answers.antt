use Rattle.cocycle_make.proofs.Names.{◌≡◌, ℕ, None, rules, refl, sym, ap, ◌∙◌, slice_index, value, map_fault}
use Rattle.cocycle_make.proofs.Inflated.{inflated_lawful}
use Rattle.cocycle_make.proofs.Made.{made}
use Rattle.cocycle_make.proofs.inflation.inflate.Goals as goal

pub from_lawful-requires-clause-lawful : goal.from_lawful-requires-clause-lawful
from_lawful-requires-clause-lawful c =
    let t = c.args.group in
    let w = c.args.from.now in
    let map = c.args.map.now in
    let none : map_fault t map w.group ≡ None = ap (λ g. map_fault t map g) (sym c.group-2.ensures.group) ∙ sym c.map_fault.ensures.first ∙ c.in-None.is in
    let at : ℕ → ℕ → ℕ → ℕ = λ x y z. value w (slice_index map x) (slice_index map y) (slice_index map z) in
    made t t c.roots.result w.roots c.order.result c.in_ok-exponents-in-None.exponents at at refl c.roots.ensures.roots c.order.ensures.order refl
    (c.in_ok-exponents-in-None.ensures.exponents at (search rules))
    (inflated_lawful t map w c.order.ensures.group c.group-2.ensures.cocycle c.requires.elements none)
