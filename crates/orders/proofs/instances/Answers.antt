-- The worked values, by computing.
use Rattle.std.proofs.Common.{◌≡◌, ℕ, ◌<◌, ◌==◌, Bool, true, [], ◌∷◌, ltb, slice_index, refl, eqb-true, ltb-true, lit<}
use Rattle.scan.specs.First.{first, all_below}
use Rattle.orders.specs.Group.{power}
use Rattle.orders.specs.Order.{order_of, exponent_of}
use Rattle.orders.specs.Instances.{after}
use Rattle.scan.proofs.Places.{all_below-at}
use Rattle.orders.proofs.instances.Goals as goal

pub returns-clause-cyclic : goal.returns-clause-cyclic
unfolding order_of first power
returns-clause-cyclic c = (refl, refl, refl)

-- a test of two elements holds at each two
pairs : (test : ℕ → ℕ → Bool) → all_below 6 (λ g. all_below 6 (test g)) ≡ true → (g h : ℕ) → g < 6 → h < 6 → test g h ≡ true
pairs test all g h p q = all_below-at 6 h (test g) (all_below-at 6 g (λ g. all_below 6 (test g)) all p) q

abbrev inverse : ℕ → ℕ
inverse g = slice_index (0 ∷ 1 ∷ 2 ∷ 4 ∷ 3 ∷ 5 ∷ []) g

pub returns-clause-symmetric_group : goal.returns-clause-symmetric_group
unfolding all_below
returns-clause-symmetric_group c = record {
  unit_below = lit< tt;
  closed = λ g h p q. ltb-true _ _ (pairs (λ g h. ltb (after g h) 6) refl g h p q);
  unit_left = λ g p. eqb-true _ _ (all_below-at 6 g (λ g. after 0 g == g) refl p);
  unit_right = λ g p. eqb-true _ _ (all_below-at 6 g (λ g. after g 0 == g) refl p);
  right_inverse = λ g p. (
    inverse g,
    ltb-true _ _ (all_below-at 6 g (λ g. ltb (inverse g) 6) refl p),
    eqb-true _ _ (all_below-at 6 g (λ g. after g (inverse g) == 0) refl p),
  );
  associative = λ g h k p q r.
      eqb-true _ _
      (all_below-at 6 k (λ k. after (after g h) k == after g (after h k))
      (pairs (λ g h. all_below 6 (λ k. after (after g h) k == after g (after h k))) refl g h p q) r);
}

pub returns-clause-symmetric_orders : goal.returns-clause-symmetric_orders
unfolding order_of exponent_of first all_below power
returns-clause-symmetric_orders c = (refl, refl, refl)
