-- The simples of a twisted quantum double, by their projective characters.
use Rattle.std.specs.Prelude.{◌≡◌, ℕ, ◌≤◌}
use Rattle.algebra.specs.Sums.{multiple}
use Rattle.characters.specs.Setting.{Setting, Classes, Commuting}
use Rattle.characters.specs.PhaseRoots.{conjugation_root}

-- simples, numbered by a type: each has the representative a of a class, and a row of values at the elements that commute with a, of
-- which the conjugates are the coefficients of a central element of the twisted group algebra of a (Coste, Gannon, Ruelle 2000)
pub record Simples {A G : Type 0} (T : Setting A G) (C : Classes T.group) (S : Type 0) : Type 0 where
  pub at : S → G
  pub value : S → G → A
  pub at_representative : (i : S) → C.representative (at i) ≡ at i
  -- the value at the identity is a whole number from 1 on, the degree
  pub degree : S → ℕ
  pub degree_from_one : (i : S) → 1 ≤ degree i
  pub degree_is : (i : S) → value i T.group.one ≡ multiple T.ring (degree i) T.ring.one
  -- the conjugate of the value at c x c^-1 is e(ka(c,x)) times that of the value at x
  pub central : (i : S) (c x : G) → Commuting T c (at i) → Commuting T x (at i)
      → T.involution.bar (value i (T.group.op (T.group.op c x) (T.group.inv c)))
      ≡ T.ring.mul (conjugation_root T (at i) c x) (T.involution.bar (value i x))

-- the vacuum: all values 1, over the class of the identity (Coste, Gannon, Ruelle 2000)
pub record IsVacuum {A G S : Type 0} {T : Setting A G} {C : Classes T.group} (X : Simples T C S) (v : S) : Type 0 where
  pub at_one : X.at v ≡ T.group.one
  pub values_one : (x : G) → X.value v x ≡ T.ring.one
