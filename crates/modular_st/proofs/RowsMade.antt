-- Rows of values while they are added, value by value and row by row.
use Rattle.modular_st.proofs.Names.{◌≡◌, ℕ, ◌+◌, ◌-◌, ℤ, List, [], ◌∷◌, ◌++◌, length, get_or, sym, ◌∙◌, ap, arith, length-append, zero-add, map-append, length-map, get_or-map, get_or_push, map-range_with_len_more, length-map-range_with_len, CyclotomicValue, cyclotomic_value, row_at, SimplesOver, s_sum, set, map-set, set_at, with_value, row_values, values_of_rows, s_front}
use mathlib.Core.Path.{ap₂}

module _ (k : ℕ) (rows : List (List (List ℤ))) (front : List (List (CyclotomicValue k))) (last : List (CyclotomicValue k)) (is : values_of_rows k rows ≡ front ++ last ∷ []) where
  -- how many rows there are
  pub rows_count : length rows ≡ length front + 1
  rows_count = sym (length-map rows (row_values k)) ∙ ap length is ∙ length-append front (last ∷ [])

  place : length front ≡ length rows - 1
  place = omega (arith, rows_count)

  -- how many values the last row has
  pub last_width : length (row_at rows (length rows - 1)) ≡ length last
  last_width =
      sym (length-map (row_at rows (length rows - 1)) (λ c. cyclotomic_value k c))
      ∙ ap length (sym (get_or-map (row_values k) rows (length rows - 1) [] [] (omega (arith, rows_count)))
      ∙ ap (λ xs. get_or xs (length rows - 1) []) is ∙ get_or_push front last [] (length rows - 1) place)

  -- one more value in the last row
  pub value_more : (value : List ℤ) → values_of_rows k (with_value rows value) ≡ front ++ (last ++ cyclotomic_value k value ∷ []) ∷ []
  value_more value =
      let n = length rows - 1 in
      let at_last : row_values k (row_at rows n) ≡ last =
      sym (get_or-map (row_values k) rows n [] [] (omega (arith, rows_count))) ∙ ap (λ xs. get_or xs n []) is ∙ get_or_push front last [] n place in
      map-set (row_values k) rows n (row_at rows n ++ value ∷ [])
      ∙ ap₂ (λ xs x. set xs n x) is (map-append (λ c. cyclotomic_value k c) (row_at rows n) (value ∷ []) ∙ ap (λ xs. xs ++ cyclotomic_value k value ∷ []) at_last)
      ∙ set_at front last [] (last ++ cyclotomic_value k value ∷ []) n place

module _ (k : ℕ) where
  -- a row with no value yet
  pub row_begun : (rows : List (List (List ℤ))) → values_of_rows k (rows ++ [] ∷ []) ≡ values_of_rows k rows ++ [] ∷ []
  row_begun rows = map-append (row_values k) rows ([] ∷ [])

  -- one more numerator of a row
  pub front_more : (s : SimplesOver) (i j : ℕ) (value : CyclotomicValue k) → value ≡ (s_sum k s i j).value → s_front k s i j ++ value ∷ [] ≡ s_front k s i (j + 1)
  front_more s i j value same =
      ap (λ u. s_front k s i j ++ u ∷ []) same ∙ sym (map-range_with_len_more (λ m. (s_sum k s i m).value) 0 j j (zero-add j))

  pub front_width : (s : SimplesOver) (i j : ℕ) → length (s_front k s i j) ≡ j
  front_width s i j = length-map-range_with_len (λ m. (s_sum k s i m).value) 0 j
