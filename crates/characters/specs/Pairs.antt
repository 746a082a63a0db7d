-- Sums over the pairs of elements that commute, and functions of them.
use Rattle.std.specs.Prelude.{◌≡◌}
use Rattle.algebra.specs.Sums.{pick}
use Rattle.algebra.specs.Totals.{total}
use Rattle.algebra.specs.Groups.{conj}
use Rattle.characters.specs.Setting.{Setting, Commuting, commute}
use Rattle.characters.specs.PhaseRoots.{transport_root}

module _ {A G : Type 0} (T : Setting A G) where
  -- the sum of f over all g and x with g x = x g
  unfoldable pub pair_sum : (G → G → A) → A
  pair_sum f = total T.ring T.finite (λ g. total T.ring T.finite (λ x. pick T.ring (commute T g x) (f g x)))

  -- the inner product: the sum of p times the conjugate of r (textbook)
  unfoldable pub inner_product : (G → G → A) → (G → G → A) → A
  inner_product p r = pair_sum (λ g x. T.ring.mul (p g x) (T.involution.bar (r g x)))

  -- a function of pairs that commute which is carried by conjugation as the characters of the twisted quantum double are
  -- (Dijkgraaf, Pasquier, Roche 1990)
  pub record IsCovariant (f : G → G → A) : Type 0 where
    pub covariant : (g x c : G) → Commuting T g x → f g x ≡ T.ring.mul (transport_root T g x c) (f (conj T.group g c) (conj T.group x c))
