use Rattle.modular_st.proofs.Names.{folded_value, IsFolded, given, product_at}
use Rattle.modular_st.proofs.kept_sum.dot_product.Given as goal

-- the products before q
abbrev pub invariant-loop-q : goal.invariant-loop-q
invariant-loop-q g l =
    IsFolded g.row.K (λ p. given g.row.K (product_at g.row.K l.left.items l.right.items p)) l.q (folded_value g.row.K l.folded) l.folded.bound
