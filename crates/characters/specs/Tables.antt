-- Good tables of projective characters.
use Rattle.std.specs.Prelude.{◌≡◌}
use Rattle.algebra.specs.Sums.{pick, multiple}
use Rattle.algebra.specs.Totals.{Finite, equals, total}
use Rattle.characters.specs.Setting.{Setting, Classes, Commuting, commute}
use Rattle.characters.specs.PhaseRoots.{slant_root, conjugation_root}
use Rattle.characters.specs.Simples.{Simples}

module _ {A G : Type 0} (T : Setting A G) where
  -- the order of the group, as an element of the ring
  unfoldable pub group_order : A
  group_order = total T.ring T.finite (λ g. T.ring.one)

  -- the sum of f over the centraliser of a
  abbrev pub centraliser_sum : G → (G → A) → A
  centraliser_sum a f = total T.ring T.finite (λ x. pick T.ring (commute T x a) (f x))

  -- the order of the centraliser of a, as an element of the ring
  unfoldable pub centraliser_order : G → A
  centraliser_order a = centraliser_sum a (λ x. T.ring.one)

  -- the product in the twisted group algebra of a at x: the sum over y of e(th_a(y, y^-1 x)) p(y) r(y^-1 x) (textbook)
  unfoldable pub centraliser_product : G → (G → A) → (G → A) → G → A
  centraliser_product a p r x =
      centraliser_sum a (λ y. T.ring.mul (slant_root T a y (T.group.op (T.group.inv y) x)) (T.ring.mul (p y) (r (T.group.op (T.group.inv y) x))))

-- what the characters of the simple modules of the twisted group algebra of a satisfy, and what is asked of the rows over a, with E_i for
-- the element whose coefficients are the conjugates of the values of i, and m for the order of the centraliser (Coste, Gannon, Ruelle
-- 2000, and textbook)
pub record GoodTable {A G S : Type 0} {T : Setting A G} {C : Classes T.group} (X : Simples T C S) (E : Finite S) (a : G) : Type 0 where
  -- the value at x^-1 is e(th_a(x, x^-1)) times the conjugate of the value at x
  pub unitary : (i : S) (x : G) → X.at i ≡ a → Commuting T x a
      → X.value i (T.group.inv x) ≡ T.ring.mul (slant_root T a x (T.group.inv x)) (T.involution.bar (X.value i x))
  -- d_i E_i E_i = m E_i
  pub product_self : (i : S) (x : G) → X.at i ≡ a → Commuting T x a
      → multiple T.ring (X.degree i) (centraliser_product T a (λ y. T.involution.bar (X.value i y)) (λ y. T.involution.bar (X.value i y)) x)
      ≡ T.ring.mul (centraliser_order T a) (T.involution.bar (X.value i x))
  -- E_i E_j = 0 for i other than j
  pub product_other : (i j : S) (x : G) → X.at i ≡ a → X.at j ≡ a → (i ≡ j → ⊥) → Commuting T x a
      → centraliser_product T a (λ y. T.involution.bar (X.value i y)) (λ y. T.involution.bar (X.value j y)) x ≡ T.ring.nought
  -- the sum of the d_i E_i is m at the identity, and nought elsewhere
  pub sum : (x : G) → Commuting T x a
      → total T.ring E (λ i. pick T.ring (equals T.finite a (X.at i)) (multiple T.ring (X.degree i) (T.involution.bar (X.value i x))))
      ≡ pick T.ring (equals T.finite x T.group.one) (centraliser_order T a)
  -- the sum over i of the conjugate of the value at x with the value at y is that of the conjugates of e(ka(c,x)) over the c with c x c^-1 = y
  pub column : (x y : G) → Commuting T x a → Commuting T y a
      → total T.ring E (λ i. pick T.ring (equals T.finite a (X.at i)) (T.ring.mul (T.involution.bar (X.value i x)) (X.value i y)))
      ≡ centraliser_sum T a (λ c. pick T.ring (equals T.finite (T.group.op (T.group.op c x) (T.group.inv c)) y) (T.involution.bar (conjugation_root T a c x)))

-- a good table for each class
pub record GoodTables {A G S : Type 0} {T : Setting A G} {C : Classes T.group} (X : Simples T C S) (E : Finite S) : Type 0 where
  pub table : (a : G) → C.representative a ≡ a → GoodTable X E a
