-- The twists of the simples of a twisted quantum double.
use Rattle.std.specs.Prelude.{◌≡◌}
use Rattle.characters.specs.Setting.{Setting, Classes}
use Rattle.characters.specs.Simples.{Simples}

-- the twist of a simple: of modulus 1, and the value at the representative a is the twist times the value at the identity, which is the
-- degree: ch(a, a) = twist d (Coste, Gannon, Ruelle 2000)
pub record AreTwists {A G S : Type 0} {T : Setting A G} {C : Classes T.group} (X : Simples T C S) (twist : S → A) : Type 0 where
  pub unit : (i : S) → T.ring.mul (twist i) (T.involution.bar (twist i)) ≡ T.ring.one
  pub at_itself : (i : S) → X.value i (X.at i) ≡ T.ring.mul (twist i) (X.value i T.group.one)
