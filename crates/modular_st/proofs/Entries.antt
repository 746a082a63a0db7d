-- The entries of the matrix S, from its rows.
use Rattle.modular_st.proofs.Names.{◌≡◌, ℕ, ◌<◌, ℤ, List, [], length, map, get_or, sym, ◌∙◌, ap, arith, zero-add, range_with_len, length-map, get_or-map, length-map-range_with_len, cyclotomic_value, value_nought, row_at, SimplesOver, count, s_sum, get_or-map-range_with_len, row_values, values_of_rows, s_front, s_rows}
use Rattle.std.specs.Prelude.{slice_index_or}
use Rattle.modular_st.proofs.RowsMade.{front_width}

-- all rows are made
pub rows_done : (k : ℕ) (s : SimplesOver) (rows : List (List (List ℤ))) (i : ℕ) → values_of_rows k rows ≡ map (λ r. s_front k s r (count k s)) (range_with_len 0 i)
    → i ≡ count k s → values_of_rows k rows ≡ s_rows k s
rows_done k s rows i made all = made ∙ ap (λ n. map (λ r. s_front k s r (count k s)) (range_with_len 0 n)) all

module _ (k : ℕ) (s : SimplesOver) (matrix : List (List (List ℤ))) (is : values_of_rows k matrix ≡ s_rows k s) where
  -- how many rows there are
  pub matrix_rows : length matrix ≡ count k s
  matrix_rows =
      sym (length-map matrix (row_values k)) ∙ ap length is ∙ length-map-range_with_len (λ i. s_front k s i (count k s)) 0 (count k s)

  -- the row i
  pub matrix_row : (i : ℕ) → i < count k s → row_values k (row_at matrix i) ≡ s_front k s i (count k s)
  matrix_row i inside =
      sym (get_or-map (row_values k) matrix i [] [] (omega (arith, inside, matrix_rows))) ∙ ap (λ rows. get_or rows i []) is
      ∙ get_or-map-range_with_len (λ r. s_front k s r (count k s)) 0 (count k s) i i [] inside (zero-add i)

  -- how many entries it has
  pub matrix_width : (i : ℕ) → i < count k s → length (row_at matrix i) ≡ count k s
  matrix_width i inside =
      sym (length-map (row_at matrix i) (λ c. cyclotomic_value k c)) ∙ ap length (matrix_row i inside) ∙ front_width k s i (count k s)

  -- the entry at i and j
  pub matrix_entry : (i j : ℕ) → i < count k s → j < count k s → cyclotomic_value k (slice_index_or (row_at matrix i) j []) ≡ (s_sum k s i j).value
  matrix_entry i j i_inside j_inside =
      sym (get_or-map (λ c. cyclotomic_value k c) (row_at matrix i) j [] value_nought (omega (arith, j_inside, matrix_width i i_inside)))
      ∙ ap (λ values. get_or values j value_nought) (matrix_row i i_inside)
      ∙ get_or-map-range_with_len (λ m. (s_sum k s i m).value) 0 (count k s) j j value_nought j_inside (zero-add j)
