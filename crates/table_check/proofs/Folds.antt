-- The terms of the sides that are folded, and those that are left out.
use Rattle.table_check.proofs.Names.{◌≡◌, ◌%◌, ◌&&◌, ◌==◌, ℕ, List, Option, true, false, refl, ap, sym, ◌∙◌, subst, eq-eqb, is_some, IfSome, is_conductor, cyclotomic, value_fits, value_product, CyclotomicValue, cyclotomic_value, root, conjugate, root_modulo, conjugate_by, Cyc, Formed, Forms, given, conjugated, multiplied, turned, IsSparseOf, TwistedSubgroup, phase, kappa, left_quotient, exponent, Characters, conjugate_value, product_term, row_term, column_term}
use Rattle.qd_ring.specs.declared.monomial.Monomial.{Monomial}
use Rattle.qd_ring.specs.SparseValues.{value_of_terms}
use Rattle.qd_ring.specs.Folding.{IsTurnedProduct}
use Rattle.qd_ring.proofs.FoldingLaws.{turned_is_product, plain_is_product}
use Rattle.qd_ring.proofs.NoughtLaws.{IsNought, unless_so}

-- a root may be reduced modulo K
turned_reduced : (k : ℕ) → is_conductor k ≡ true → (e r : ℕ) (u : Formed k) → r ≡ e % k → turned k r u ≡ turned k e u
turned_reduced k entry e r u is =
    let by : CyclotomicValue k → Formed k = λ z. record { fits = u.fits && value_fits (value_product (cyclotomic k) z u.value); value = value_product (cyclotomic k) z u.value } in
    ap by (ap (root k) is ∙ sym (root_modulo k entry e))

module _ (k : ℕ) (s : TwistedSubgroup) (table : Characters k) where
  -- the term at y of a product of rows is a product of sparse values times a root
  pub product_folds : is_conductor k ≡ true → (i j x y z phase_of r : ℕ) (a b : List Monomial) → z ≡ left_quotient s y x → phase_of ≡ phase s y z
      → r ≡ exponent k s phase_of % k → IsSparseOf k (conjugate_value s table i y) a → IsSparseOf k (conjugate_value s table j z) b
      → IsTurnedProduct k (product_term s table i j x y) r (value_of_terms k a) (value_of_terms k b)
  product_folds entry i j x y z phase_of r a b z_is phase_is r_is of_a of_b =
      let u = multiplied k (conjugate_value s table i y) (conjugate_value s table j z) in
      let same : turned k r u ≡ product_term s table i j x y =
      turned_reduced k entry (exponent k s phase_of) r u r_is
      ∙ ap (λ v. turned k (exponent k s v) u) phase_is
      ∙ ap (λ q. turned k (exponent k s (phase s y q)) (multiplied k (conjugate_value s table i y) (conjugate_value s table j q))) z_is in
      subst (λ t. IsTurnedProduct k t r (value_of_terms k a) (value_of_terms k b)) same
      (turned_is_product k (conjugate_value s table i y) (conjugate_value s table j z) a b of_a of_b r)

  -- the term of row i of a product of columns is a product of sparse values
  pub row_folds : (i x y r : ℕ) (a b : List Monomial) → r ≡ 0 → IsSparseOf k (conjugate_value s table i x) a → value_of_terms k b ≡ table.chi i y
      → IsTurnedProduct k (row_term s table x y i) r (value_of_terms k a) (value_of_terms k b)
  row_folds i x y r a b none of_a stands =
      subst (λ e. IsTurnedProduct k (row_term s table x y i) e (value_of_terms k a) (value_of_terms k b)) (sym none)
      (plain_is_product k (conjugate_value s table i x) (given k (table.chi i y)) a b of_a (record { fits = refl; stands = stands }))

-- the term of a place c that carries x to y, and that of one that doesn't
module _ (k : ℕ) (s : TwistedSubgroup) (x y c : ℕ) where
  pub column_formed : is_conductor k ≡ true → (r : ℕ) (z : CyclotomicValue k) (u : Option (Cyc k)) → conjugate_by s.group c x ≡ y
      → r ≡ exponent k s (kappa s c x) % k → z ≡ root k r → is_some u ≡ value_fits (conjugate k z)
      → IfSome u (λ v. cyclotomic_value k v.coefficients ≡ conjugate k z) → Forms (column_term {k = k} s x y c) u
  column_formed entry r z u carried r_is z_is there stands =
      let same : z ≡ root k (exponent k s (kappa s c x)) = z_is ∙ ap (root k) r_is ∙ sym (root_modulo k entry (exponent k s (kappa s c x))) in
      rw (eq-eqb (conjugate_by s.group c x) y carried, ← same) (record { there = there; stands = stands })

  pub column_left_out : (conjugate_by s.group c x == y) ≡ false → IsNought (column_term {k = k} s x y c)
  column_left_out other = unless_so k (conjugate_by s.group c x == y) (conjugated k (given k (root k (exponent k s (kappa s c x))))) other
