use Rattle.std.proofs.Common.{◌≡◌, All, vec_len}
use Rattle.twisted.proofs.elem.Elem.zero.Given as goal

-- as many zeros as there are places so far
abbrev pub invariant-loop-p : goal.invariant-loop-p
invariant-loop-p g l = record {
  count : vec_len l.coefficients ≡ l.p;
  values : All (g.R.Ring.IsValue l.ring) l.coefficients.items;
  zeros : All (λ v. g.R.Ring.of l.ring v ≡ (g.R.Ring.ops l.ring).nought) l.coefficients.items;
}
