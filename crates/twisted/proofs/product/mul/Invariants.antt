use Rattle.twisted.proofs.Names.{◌≡◌, ℕ, ◌<◌, All, length, size, coefficient, twisted_product}
use Rattle.twisted.proofs.product.mul.Given as goal

-- the coefficients before the place are those of the product
abbrev pub invariant-loop-place : goal.invariant-loop-place
invariant-loop-place g l = record {
  count : length l.product ≡ size l.twist;
  values : All (g.R.Ring.IsValue l.ring) l.product;
  sums : (x : ℕ) → x < l.place
      → coefficient (g.R.Ring.of l.ring) (g.R.Ring.ops l.ring).nought l.product x
      ≡ twisted_product (g.R.Ring.ops l.ring) (g.R.Ring.unit l.ring) l.twist (coefficient (g.R.Ring.of l.ring) (g.R.Ring.ops l.ring).nought l.a) (coefficient (g.R.Ring.of l.ring) (g.R.Ring.ops l.ring).nought l.b) x;
}
