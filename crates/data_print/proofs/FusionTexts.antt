-- The lines of a pair's results are those of all simples whose number is over 0.
use Rattle.data_print.proofs.Names.{◌≡◌, ℕ, zero, suc, ◌+◌, ◌-◌, ◌⊎◌, inl, inr, Bool, true, false, cond, nat_lt, List, [], ◌∷◌, ◌++◌, map, refl, sym, ap, ◌∙◌, arith, flat_map_more, WebEntries, count_of, row_of, first_lines, number_line, product_text}
use Rattle.std.specs.List.{filter, flat_map, range_with_len}
use Rattle.std.proofs.lemmas.List.Concat.{flat_map-cons}

-- the lines of these results of i and j
abbrev pub results_text : ℕ → ℕ → List (ℕ × ℕ) → List ℕ
results_text i j results = flat_map (λ r. number_line i j r.0 r.1) results

range_end : (a n j : ℕ) → a + n ≡ j → range_with_len a (suc n) ≡ range_with_len a n ++ j ∷ []
range_end a zero j e = ap (λ x. x ∷ []) (omega arith)
range_end a (suc n) j e = ap (λ xs. a ∷ xs) (range_end (a + 1) n j (omega arith))

-- the first n lines are those of the numbers below n
lines_of_range : (line : ℕ → List ℕ) (n : ℕ) → flat_map line (range_with_len 0 n) ≡ first_lines line n
unfolding first_lines
lines_of_range line zero = refl
lines_of_range line (suc n) =
    ap (flat_map line) (range_end 0 n n (omega arith)) ∙ sym (flat_map_more line [] (range_with_len 0 n) n)
    ∙ ap (λ (text : List ℕ). text ++ line n) (lines_of_range line n)

cases : (b : Bool) → (b ≡ true) ⊎ (b ≡ false)
cases true = inl refl
cases false = inr refl

-- the lines of what is kept of some numbers
kept_text : (line : ℕ → ℕ → List ℕ) (count : ℕ → ℕ) (ks : List ℕ) → flat_map {X = ℕ × ℕ} (λ r. line r.0 r.1) (filter (λ r. nat_lt 0 r.1) (map (λ k. (k, count k)) ks)) ≡ flat_map (λ k. cond (nat_lt 0 (count k)) (line k (count k)) []) ks
kept_text line count [] = refl
kept_text line count (k ∷ ks) =
    let of_result : ℕ × ℕ → List ℕ = λ r. line r.0 r.1 in
    let of_number : ℕ → List ℕ = λ k. cond (nat_lt 0 (count k)) (line k (count k)) [] in
    let kept : List ℕ → List (ℕ × ℕ) = λ ks. filter (λ r. nat_lt 0 r.1) (map (λ k. (k, count k)) ks) in
    let rest = kept_text line count ks in
    elim (cases (nat_lt 0 (count k))) [
      | inl some ↦
          ap (λ b. flat_map of_result (cond b ((k, count k) ∷ kept ks) (kept ks))) some ∙ flat_map-cons of_result (k, count k) (kept ks)
          ∙ ap (λ (text : List ℕ). line k (count k) ++ text) rest
          ∙ sym (flat_map-cons of_number k ks ∙ ap (λ b. cond b (line k (count k)) [] ++ flat_map of_number ks) some)
      | inr none ↦
          ap (λ b. flat_map of_result (cond b ((k, count k) ∷ kept ks) (kept ks))) none ∙ rest
          ∙ sym (flat_map-cons of_number k ks ∙ ap (λ b. cond b (line k (count k)) [] ++ flat_map of_number ks) none)
    ]

-- the results of a pair have the lines of its product
pub product_of_results : (web : WebEntries) (i j : ℕ) → results_text i j (row_of web i j) ≡ product_text web.simples (count_of web) i j
product_of_results web i j =
    kept_text (number_line i j) (count_of web i j) (range_with_len 0 (web.simples - 0))
    ∙ lines_of_range (λ k. cond (nat_lt 0 (count_of web i j k)) (number_line i j k (count_of web i j k)) []) (web.simples - 0)
    ∙ ap (first_lines (λ k. cond (nat_lt 0 (count_of web i j k)) (number_line i j k (count_of web i j k)) [])) (omega arith)
