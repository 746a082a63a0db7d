-- The full characters of the simples of a twisted quantum double.
use Rattle.std.specs.Prelude.{Bool}
use Rattle.algebra.specs.Sums.{pick}
use Rattle.algebra.specs.Totals.{equals}
use Rattle.algebra.specs.Groups.{conj}
use Rattle.characters.specs.Setting.{Setting, Classes, commute}
use Rattle.characters.specs.PhaseRoots.{transport_root}
use Rattle.characters.specs.Simples.{Simples}

module _ {A G S : Type 0} (T : Setting A G) (C : Classes T.group) (X : Simples T C S) where
  -- whether g is in the class of the simple i
  unfoldable pub in_class : S → G → Bool
  in_class i g = equals T.finite (C.representative g) (X.at i)

  -- the full character of i at g = k a k^-1 and x with g x = x g: e(th_g(x,k) / th_g(k, k^-1 x k)) times the value of i at k^-1 x k. It is
  -- nought elsewhere (Coste, Gannon, Ruelle 2000, as the character of an induced module)
  unfoldable pub full_character : S → G → G → A
  full_character i g x =
      pick T.ring (in_class i g)
      (pick T.ring (commute T g x) (T.ring.mul (transport_root T g x (C.carrier g)) (X.value i (conj T.group x (C.carrier g)))))
