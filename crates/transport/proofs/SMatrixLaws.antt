-- S is symmetric and unitary, its row at the vacuum holds the dimensions, and full characters are orthogonal.
use Rattle.transport.proofs.Names.{◌≡◌, ℕ, ◌*◌, ◌<◌, ◌==◌, sym, ap, ap₂, ◌∙◌, eqb-true, eq-eqb, if◌then◌else◌, Below, sum_ext, cyclotomic, value_nought, value_product, CyclotomicValue, cyclotomic_ring, conjugate, multiplied, conjugated, whole, Setting, Classes, same_test, inner_product_is, abstract_inner, character, abstract_sum, abstract_term, s_sum_is, s_sum_symmetric, s_sum_of_vacuum, first_orthogonality, SimplesOver, count, dimension_at, AreSimples, full_character, pair_term, inner_product, s_entry, OfAllSimples, CharactersOrthogonal, SSymmetric, VacuumRow, VacuumEntry, SUnitary, AdjointUnitary, SquaresOfDimensions}
use Rattle.characters.proofs.Unitarity.{s_unitary}
use Rattle.transport.proofs.Doubles.{double_classes}
use Rattle.transport.proofs.DoubleSimples.{setting, simples}
use Rattle.transport.proofs.CharacterLaws.{character_is, term_is}
use Rattle.transport.proofs.GoodTables.{numbered, good_tables, first, vacuum, torsion_free}
use Rattle.transport.proofs.Wholes.{whole_product, whole_conjugate, whole_injective, sum_of_wholes}
use Rattle.transport.proofs.PairSums.{pair_sum_is, simples_sum, at_equal_is, order_is, square_is}
use Rattle.transport.proofs.Dimensions.{dimension_whole, vacuum_dimension}

module _ (k : ℕ) (s : SimplesOver) (S : AreSimples k s) where
  abbrev T : Setting (CyclotomicValue k) (Below s.cocycle.group.order)
  T = setting k s S

  abbrev C : Classes (setting k s S).group
  C = double_classes s.cocycle S.cocycle

  -- the simple i
  abbrev pub simple : (i : ℕ) → i < count k s → Below (count k s)
  simple i below = record { value = i; below = below }

  -- the abstract S is the sum of the program
  pub entry_is : (i j : Below (count k s)) → abstract_sum T C (simples k s S) i j ≡ s_entry k s i.value j.value
  entry_is i j = s_sum_is T C (simples k s S) i j ∙ pair_sum_is k s S (abstract_term T C (simples k s S) i j) (pair_term k s i.value j.value) (term_is k s S i j)

  pub inner_product_of : (i j : Below (count k s)) → abstract_inner T (character T C (simples k s S) i) (character T C (simples k s S) j)
      ≡ (inner_product k s (full_character k s i.value) (full_character k s j.value)).value
  inner_product_of i j =
      inner_product_is T _ _
      ∙ pair_sum_is k s S _ (λ g x. multiplied k (full_character k s i.value g x) (conjugated k (full_character k s j.value g x)))
      (λ g x commuting. ap₂ (λ u v. T.ring.mul u (conjugate k v)) (character_is k s S i g x commuting) (character_is k s S j g x commuting))

pub characters_orthogonal : OfAllSimples CharactersOrthogonal
characters_orthogonal k s S = record {
  orthogonal = λ i j i_below j_below.
      let I = simple k s S i i_below in
      let J = simple k s S j j_below in
      sym (inner_product_of k s S I J)
      ∙ first_orthogonality (setting k s S) (double_classes s.cocycle S.cocycle) (simples k s S) (numbered k s S) (good_tables k s S) (torsion_free k) I J
      ∙ at_equal_is k s S I J _ _ (order_is k s S);
}

pub s_symmetric : OfAllSimples SSymmetric
s_symmetric k s S i j i_below j_below =
    let I = simple k s S i i_below in
    let J = simple k s S j j_below in
    sym (entry_is k s S I J) ∙ s_sum_symmetric (setting k s S) (double_classes s.cocycle S.cocycle) (simples k s S) I J ∙ entry_is k s S J I

pub vacuum_row : OfAllSimples VacuumRow
vacuum_row k s S j below =
    let J = simple k s S j below in
    sym (entry_is k s S (first k s S) J) ∙ s_sum_of_vacuum (setting k s S) (double_classes s.cocycle S.cocycle) (simples k s S) (first k s S) J (vacuum k s S)
    ∙ dimension_whole k s S J

pub vacuum_entry : OfAllSimples VacuumEntry
vacuum_entry k s S =
    let V = first k s S in
    sym (entry_is k s S V V) ∙ s_sum_of_vacuum (setting k s S) (double_classes s.cocycle S.cocycle) (simples k s S) V V (vacuum k s S) ∙ vacuum_dimension k s S

pub s_is_unitary : OfAllSimples SUnitary
s_is_unitary k s S i j i_below j_below =
    let I = simple k s S i i_below in
    let J = simple k s S j j_below in
    sym (simples_sum k s S _ (λ l. value_product (cyclotomic k) (s_entry k s i l) (conjugate k (s_entry k s j l)))
    (λ l. ap₂ (λ u v. value_product (cyclotomic k) u (conjugate k v)) (entry_is k s S I l) (entry_is k s S J l)))
    ∙ s_unitary (setting k s S) (double_classes s.cocycle S.cocycle) (simples k s S) (numbered k s S) (good_tables k s S) (torsion_free k) I J
    ∙ at_equal_is k s S I J _ _ (square_is k s S)

pub squares_of_dimensions : OfAllSimples SquaresOfDimensions
squares_of_dimensions k s S =
    let n = s.cocycle.group.order in
    let V = first k s S in
    whole_injective k S.conductor _ _
    (sym (sum_of_wholes k (count k s) (λ i. dimension_at k s i * dimension_at k s i))
    ∙ sum_ext (cyclotomic_ring k) (count k s) _ _
    (λ l below.
    sym (ap₂ (value_product (cyclotomic k)) (vacuum_row k s S l below) (ap (conjugate k) (vacuum_row k s S l below) ∙ whole_conjugate k S.conductor (dimension_at k s l))
    ∙ whole_product k (dimension_at k s l) (dimension_at k s l)))
    ∙ s_is_unitary k s S 0 0 V.below V.below)

-- the conjugates of columns, since S is symmetric
pub adjoint_is_unitary : OfAllSimples AdjointUnitary
adjoint_is_unitary k s S i j i_below j_below =
    let n = s.cocycle.group.order in
    sum_ext (cyclotomic_ring k) (count k s) _ _
    (λ l below.
    ap₂ (λ u v. value_product (cyclotomic k) (conjugate k u) v) (s_symmetric k s S l i below i_below) (s_symmetric k s S l j below j_below)
    ∙ (cyclotomic_ring k).mul_comm (conjugate k (s_entry k s i l)) (s_entry k s j l))
    ∙ s_is_unitary k s S j i j_below i_below
    ∙ ap (λ b. if b then whole k (n * n) else value_nought) (same_test (j == i) (i == j) (λ h. eq-eqb i j (sym (eqb-true j i h))) (λ h. eq-eqb j i (sym (eqb-true i j h))))
