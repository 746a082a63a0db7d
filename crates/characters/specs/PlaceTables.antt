-- Good tables over the places of a centraliser.
use Rattle.std.specs.Prelude.{◌≡◌}
use Rattle.algebra.specs.Sums.{pick, multiple}
use Rattle.algebra.specs.Totals.{Finite, equals, total}
use Rattle.algebra.specs.Groups.{Group}
use Rattle.characters.specs.Setting.{Setting, Classes}
use Rattle.characters.specs.PhaseRoots.{slant_root, conjugation_root}
use Rattle.characters.specs.Simples.{Simples}

-- the places K of the centraliser of a, and the rows L of its table
module _ {A G S K L : Type 0} {T : Setting A G} {C : Classes T.group} (X : Simples T C S) (a : G) (Q : Group K) (F : Finite K) (element : K → G) (N : Finite L) (simple : L → S) where
  -- the value of a row at a place
  abbrev pub entry : L → K → A
  entry r p = X.value (simple r) (element p)

  -- its conjugate
  abbrev pub entry_bar : L → K → A
  entry_bar r p = T.involution.bar (entry r p)

  -- the product of the elements with the conjugates of two rows, at a place: the sum over y of e(th_a(y, y^-1 p)) times those at y and y^-1 p
  abbrev pub row_product : L → L → K → A
  row_product r s p =
      total T.ring F (λ y. T.ring.mul (slant_root T a (element y) (element (Q.op (Q.inv y) p))) (T.ring.mul (entry_bar r y) (entry_bar s (Q.op (Q.inv y) p))))

  -- the clauses of a good table, with the number of places for the order of the centraliser (Coste, Gannon, Ruelle 2000, and textbook)
  pub record GoodTableAtPlaces : Type 0 where
    pub unitary : (r : L) (p : K) → entry r (Q.inv p) ≡ T.ring.mul (slant_root T a (element p) (element (Q.inv p))) (entry_bar r p)
    pub product_self : (r : L) (p : K) → multiple T.ring (X.degree (simple r)) (row_product r r p) ≡ multiple T.ring F.size (entry_bar r p)
    pub product_other : (r s : L) (p : K) → (r ≡ s → ⊥) → row_product r s p ≡ T.ring.nought
    pub sum : (p : K) → total T.ring N (λ r. multiple T.ring (X.degree (simple r)) (entry_bar r p)) ≡ pick T.ring (equals F p Q.one) (multiple T.ring F.size T.ring.one)
    pub column : (p q : K) → total T.ring N (λ r. T.ring.mul (entry_bar r p) (entry r q))
        ≡ total T.ring F (λ c. pick T.ring (equals F (Q.op (Q.op c p) (Q.inv c)) q) (T.involution.bar (conjugation_root T a (element c) (element p))))
