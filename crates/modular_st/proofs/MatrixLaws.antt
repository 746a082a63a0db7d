-- The matrix S whose entries are the sums of the program is symmetric and unitary, and its row at the vacuum holds the dimensions.
use Rattle.modular_st.proofs.Names.{◌≡◌, ℕ, ◌<◌, sym, ap₂, ◌∙◌, cyclotomic_ring, conjugate, SimplesOver, count, AreSimples, s_sum, sum_ext, IsSymmetric, HoldsDimensions, IsUnitary}
use Rattle.transport.specs.Matrices.{Matrix}
use Rattle.transport.proofs.GoodTables.{first}
use Rattle.transport.proofs.SMatrixLaws.{s_symmetric, vacuum_row, s_is_unitary}

module _ (k : ℕ) (s : SimplesOver) (S : AreSimples k s) (a : Matrix k) (entries : (i j : ℕ) → i < count k s → j < count k s → a i j ≡ (s_sum k s i j).value) where
  pub matrix_symmetric : IsSymmetric k s a
  matrix_symmetric = record {
    symmetric = λ i j i_below j_below. entries i j i_below j_below ∙ s_symmetric k s S i j i_below j_below ∙ sym (entries j i j_below i_below);
  }

  pub matrix_dimensions : HoldsDimensions k s a
  matrix_dimensions = record { dimensions = λ j below. entries 0 j (first k s S).below below ∙ vacuum_row k s S j below }

  pub matrix_unitary : IsUnitary k s a
  matrix_unitary = record {
    unitary = λ i j i_below j_below.
        sum_ext (cyclotomic_ring k) (count k s) _ _
        (λ l below. ap₂ (λ u v. (cyclotomic_ring k).mul u (conjugate k v)) (entries i l i_below below) (entries j l j_below below))
        ∙ s_is_unitary k s S i j i_below j_below;
  }
