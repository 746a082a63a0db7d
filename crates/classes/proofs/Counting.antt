-- How many classes and members there are, by counting.
use Rattle.classes.proofs.Names.{◌≡◌, ℕ, ◌*◌, ◌<◌, ◌≤◌, length, nat_eq, ap, ◌∙◌, arith, inl, inr, eq-eqb, eqb-true, same_test, Table, product, IsGroup, passing_below-ext}
use Rattle.std.proofs.lemmas.Bool.{cases_lt}
use Rattle.orders.proofs.Sums.{pigeonhole}
use Rattle.classes.specs.Conjugacy.{conjugate, representatives, representative_at, members_of, centraliser_of}
use Rattle.algebra.specs.Below.{below_equal}
use Rattle.classes.proofs.Carrying.{carry, carry_of_commuting, commuting_of_carry, element, same_value, element_group}
use Rattle.classes.proofs.Orbits.{orbit_equation}
use Rattle.classes.proofs.Conjugacy.{conjugation, representative_at_is, different_at}

module _ (t : Table) (G : IsGroup t) where
  -- there are at most as many classes as elements
  pub classes_at_most : length (representatives t) ≤ t.order
  classes_at_most =
      elim (cases_lt t.order (length (representatives t))) [
        | inl many ↦
            absurd (pigeonhole t.order (representative_at t) (λ c p. (representative_at_is t G c (omega arith)).below)
            (λ c d less last. different_at t G c d less (omega arith)))
        | inr few ↦ few
      ]

  -- x a x^-1 = a exactly where x a = a x
  commutes_test : (a x : ℕ) → a < t.order → x < t.order → nat_eq (product t x a) (product t a x) ≡ nat_eq (conjugate t x a) a
  unfolding carry conjugate
  commutes_test a x p q =
      let P = element_group t G in
      same_test _ _
      (λ commutes. eq-eqb _ _ (same_value (carry_of_commuting P (element x q) (element a p) (below_equal _ _ (eqb-true _ _ commutes)))))
      (λ fixed. eq-eqb _ _ (same_value (commuting_of_carry P (element x q) (element a p) (below_equal _ _ (eqb-true _ _ fixed)))))

  -- the class equation: the size of the class of a times that of its centraliser is the order of the group
  pub class_equation : (a : ℕ) → a < t.order → length (members_of t a) * length (centraliser_of t a) ≡ t.order
  unfolding members_of centraliser_of
  class_equation a p =
      ap (λ xs. length (members_of t a) * length xs) (passing_below-ext t.order _ _ (λ x q. commutes_test a x p q))
      ∙ orbit_equation t G t.order (conjugate t) (conjugation t G) a p
