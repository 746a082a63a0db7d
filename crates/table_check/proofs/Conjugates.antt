-- Conjugates that are kept.
use Rattle.table_check.proofs.Names.{◌≡◌, ◌<◌, ◌+◌, ℕ, true, Some, None, List, [], ◌∷◌, ◌++◌, length, map, ap, ap₂, sym, ◌∙◌, zero-add, get_or, range_with_len, Vec, map-append, length-map, get_or-map, first, first_none-at, and_true, passes, cyclotomic_value, conjugate, value_fits, TwistedSubgroup, size, Characters, RowsOver, characters_of, is_same, agree, unitary_at, unitary_miss, Forms, unitary_left, unitary_right, Cyc, IsSparseOf, values_of, conjugate_row, conjugate_value}
use Rattle.std.proofs.lemmas.List.FromFn.{map-range_with_len_more, length-map-range_with_len, get_or-map-range_with_len}
use Rattle.qd_ring.specs.ArrayLaws.{array_fits}
use Rattle.table_check.specs.declared.kept.Kept.{Kept}
use Rattle.table_check.specs.Conjugates.{AreConjugates}

-- where the clause on inverses holds, conjugates fit
pub conjugate_fits : {k : ℕ} (s : TwistedSubgroup) (table : Characters k) (i x : ℕ) → unitary_miss s table ≡ None → i < table.count → x < size s
    → value_fits (conjugate k (table.chi i x)) ≡ true
conjugate_fits {k} s table i x none row place =
    let left = unitary_left s table i x in
    let right = unitary_right s table i x in
    let of_row = first_none-at table.count i (λ j. first (size s) (unitary_at s table j)) none row in
    let agreed = passes (agree left right) _ (first_none-at (size s) x (unitary_at s table i) of_row place) in
    (and_true _ (value_fits right.value) (and_true right.fits (is_same left.value right.value) agreed).0).0

-- a list that a map takes to the values of a function
module _ {A B : Type 0} (f : A → B) (g : ℕ → B) where
  -- one more
  pub mapped_more : (n : ℕ) (xs : List A) (x : A) → map f xs ≡ map g (range_with_len 0 n) → f x ≡ g n
      → map f (xs ++ x ∷ []) ≡ map g (range_with_len 0 (n + 1))
  mapped_more n xs x same here =
      map-append f xs (x ∷ []) ∙ ap₂ (λ ys y. ys ++ y ∷ []) same here ∙ sym (map-range_with_len_more g 0 n n (zero-add n))

  pub mapped_length : (n : ℕ) (xs : List A) → map f xs ≡ map g (range_with_len 0 n) → length xs ≡ n
  mapped_length n xs same = sym (length-map xs f) ∙ ap length same ∙ length-map-range_with_len g 0 n

  pub mapped_at : (n : ℕ) (xs : List A) → map f xs ≡ map g (range_with_len 0 n) → (i : ℕ) (x : A) → i < n → x ≡ get_or xs i x → f x ≡ g i
  mapped_at n xs same i x inside at =
      ap f at ∙ sym (get_or-map f xs i x) ∙ ap (λ ys. get_or ys i (f x)) same ∙ get_or-map-range_with_len g 0 n i i (f x) inside (zero-add i)

module _ (k : ℕ) (table : RowsOver) where
  -- a value that is kept is the conjugate at its place, and it fits
  pub conjugate_kept : (i x : ℕ) (u : Cyc k) → cyclotomic_value k u.coefficients ≡ conjugate k ((characters_of k table.rows).chi i x)
      → Forms (conjugate_value table.over (characters_of k table.rows) i x) (Some u)
  conjugate_kept i x u same = record {
    there = sym (ap value_fits (sym same) ∙ array_fits k u.conductor u.coefficients u.array u.small);
    stands = same;
  }

  -- and so does its sparse form
  pub sparse_kept : (i x : ℕ) (u : Kept k) → cyclotomic_value k u.value.coefficients ≡ conjugate k ((characters_of k table.rows).chi i x)
      → IsSparseOf k (conjugate_value table.over (characters_of k table.rows) i x) u.terms
  sparse_kept i x u same = record { fits = sym (conjugate_kept i x u.value same).there; stands = u.same ∙ same }

  -- how many rows are kept, and what is kept in each
  module _ (kept : List (Vec (Kept k))) (same : AreConjugates k table kept) where
    pub kept_rows : length kept ≡ length table.rows
    kept_rows = mapped_length _ (conjugate_row (size table.over) (characters_of k table.rows)) _ kept same

    pub kept_row : (i : ℕ) (row : Vec (Kept k)) → i < length table.rows → row ≡ get_or kept i row
        → values_of k row.items ≡ conjugate_row (size table.over) (characters_of k table.rows) i
    kept_row = mapped_at _ (conjugate_row (size table.over) (characters_of k table.rows)) _ kept same
