-- The lines of the matrix S, from its rows of coefficients.
use Rattle.qd_engine.proofs.Names.{◌≡◌, ℕ, ◌<◌, List, [], length, get_or, sym, ap, subst, ◌∙◌, arith, ℤ, get_or-map, length-map, length-map-range_with_len, get_or-map-range_with_len, SimplesOver, count, values_of_rows, s_rows, first_lines, row_at, row_values, s_front, s_lines}
use Rattle.data_print.specs.Text.{◌⧺◌}
use Rattle.data_print.specs.SLines.{s_head, s_line, s_text}

module _ (k : ℕ) (s : SimplesOver) where
  -- the line of the simple i, with what stands before it
  abbrev pub line_of_row : ℕ → List ℕ
  line_of_row i = s_head s.cocycle.group.order i ⧺ s_line i (s_front k s i (count k s))

  pub all_lines : (n : ℕ) (text : List ℕ) → n ≡ count k s → text ≡ first_lines line_of_row n → text ≡ s_lines k s
  unfolding s_lines
  all_lines n text all are = are ∙ ap (first_lines line_of_row) all

  module _ (rows : List (List (List ℤ))) (are : values_of_rows k rows ≡ s_rows k s) where
    -- as many rows as simples
    pub rows_count : length rows ≡ count k s
    rows_count = sym (length-map rows (row_values k)) ∙ ap length are ∙ length-map-range_with_len (λ i. s_front k s i (count k s)) 0 (count k s)

    pub row_is : (i : ℕ) → i < count k s → row_values k (row_at rows i) ≡ s_front k s i (count k s)
    row_is i below =
        sym (get_or-map (row_values k) rows i [] [] (subst (λ n. i < n) (sym rows_count) below)) ∙ ap (λ values. get_or values i []) are
        ∙ get_or-map-range_with_len (λ i. s_front k s i (count k s)) 0 (count k s) i i [] below (omega arith)

    -- the lines of a row are those of its values
    pub line_is : (n i : ℕ) → n ≡ s.cocycle.group.order → i < count k s → s_text k n i rows ≡ line_of_row i
    line_is n i order below = ap (λ values. s_head n i ⧺ s_line i values) (row_is i below) ∙ ap (λ m. s_head m i ⧺ s_line i (s_front k s i (count k s))) order
