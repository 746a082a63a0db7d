-- Entries of a sparse list, put one after the other into a list of exponents.
use Rattle.qd_doc.proofs.Names.{Lexeme, List, ap, arith, entry_at, eq-eqb, fill_by_all, get_or-map-range_with_len, get_or-set_at, get_or-set_other, inl, inr, last_below, length, length-map-range_with_len, length-set, map, ne_eqb, number_at, range_with_len, refl, replicate, slice_set, sparse_exponents, suc, sym, unwrap_or, zero, zero-add, ℕ, ◌*◌, ◌+◌, ◌<◌, ◌∙◌, ◌≡◌, ◌≢◌, ◌⊎◌}

same_or_other : (p k : ℕ) → (p ≡ k) ⊎ (p ≢ k)
same_or_other p k = grind arith

-- a list made from a function, with one item set, is made from the function that differs there
set-map_range : (f g : ℕ → ℕ) (m k v : ℕ) → g k ≡ v → ((p : ℕ) → p ≢ k → g p ≡ f p) → slice_set (map f (range_with_len 0 m)) k v ≡ map g (range_with_len 0 m)
set-map_range f g m k v here others =
    let made = map f (range_with_len 0 m) in
    fill_by_all g (slice_set made k v) m 0
    (length-set made k v ∙ length-map-range_with_len f 0 m)
    (λ p within. elim (same_or_other p k) [
      | inl same ↦
          let inside : k < length made = omega (arith, length-map-range_with_len f 0 m) in
          get_or-set_at made k p v 0 same inside ∙ sym here ∙ ap g (sym same)
      | inr other ↦
          get_or-set_other made k p v 0 other ∙ get_or-map-range_with_len f 0 m p p 0 within (zero-add p) ∙ sym (others p other)
    ])

-- the place that entry i names
abbrev pub place_of : List Lexeme → ℕ → ℕ → ℕ
place_of all n at = (number_at all at * n + number_at all (at + 1)) * n + number_at all (at + 2)

-- one more entry sets its place
pub sparse_exponents-suc : (all : List Lexeme) (n start i : ℕ)
    → slice_set (sparse_exponents all n start i) (place_of all n (start + 4 * i)) (number_at all (start + 4 * i + 3)) ≡ sparse_exponents all n start (suc i)
unfolding sparse_exponents last_below
sparse_exponents-suc all n start i =
    let at = start + 4 * i in
    let key = place_of all n at in
    set-map_range
    (λ place. unwrap_or (last_below i (entry_at all n start place)) 0)
    (λ place. unwrap_or (last_below (suc i) (entry_at all n start place)) 0)
    (n * n * n) key (number_at all (at + 3))
    (rw (eq-eqb key key refl) refl)
    (λ place other. rw (ne_eqb key place (λ e. other (sym e))) refl)

-- no entry, and all exponents are 0
zeros-range : (a m : ℕ) (f : ℕ → ℕ) → ((p : ℕ) → f p ≡ 0) → replicate m 0 ≡ map f (range_with_len a m)
zeros-range a zero f zeros = refl
zeros-range a (suc m) f zeros = rw (zeros a, zeros-range (a + 1) m f zeros) refl

pub sparse_exponents-zero : (all : List Lexeme) (n start : ℕ) → replicate (n * n * n) 0 ≡ sparse_exponents all n start 0
unfolding sparse_exponents last_below
sparse_exponents-zero all n start =
    zeros-range 0 (n * n * n) (λ place. unwrap_or (last_below 0 (entry_at all n start place)) 0)
    (λ place. refl)
