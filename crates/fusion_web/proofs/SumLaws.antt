-- Sums along rings, and counts after an insertion.
use Rattle.fusion_web.proofs.Names.{◌≡◌, ℕ, ◌+◌, ◌-◌, ◌*◌, ◌/◌, ◌%◌, Bool, false, cond, nat_lt, List, [], ◌∷◌, Option, Some, None, map, refl, sym, ap, ◌∙◌, arith, inl, inr, zero-add, filter, find, range_with_len, sum_by, option_map_or, option_or, ltb-false, ap₂, Entry, entry_at, no_entry, count_of, is_entry_of}
use Rattle.std.proofs.lemmas.List.Folds.{find-append}
use Rattle.std.proofs.lemmas.List.Sums.{sum_by-cons}
use Rattle.fusion_web.specs.Laws.{RowSums, IntoSums, CountsGrow}
use Rattle.fusion_web.proofs.EntryLaws.{cases, is_of, find_none, absent}

-- a sum over what is kept of the items is that over all, where it is 0 at what isn't kept
sum_kept : {A : Type 0} (keep : A → Bool) (item : ℕ → A) (g : A → ℕ) (h : ℕ → ℕ) → ((x : ℕ) → g (item x) ≡ h x) → ((x : ℕ) → keep (item x) ≡ false → h x ≡ 0)
    → (xs : List ℕ) → sum_by g (filter keep (map item xs)) ≡ sum_by h xs
sum_kept keep item g h same none [] = refl
sum_kept {A} keep item g h same none (x ∷ xs) =
    let rest = sum_kept keep item g h same none xs in
    elim (cases (keep (item x))) [
      | inl kept ↦
          let step : sum_by g (filter keep (map item (x ∷ xs))) ≡ g (item x) + sum_by g (filter keep (map item xs)) =
          ap (λ b. sum_by g (cond b (item x ∷ filter keep (map item xs)) (filter keep (map item xs)))) kept ∙ sum_by-cons g (item x) (filter keep (map item xs)) in
          step ∙ ap₂ (λ a b. a + b) (same x) rest ∙ sym (sum_by-cons h x xs)
      | inr dropped ↦
          let step : sum_by g (filter keep (map item (x ∷ xs))) ≡ sum_by g (filter keep (map item xs)) =
          ap (λ b. sum_by g (cond b (item x ∷ filter keep (map item xs)) (filter keep (map item xs)))) dropped in
          step ∙ rest ∙ sym (zero-add (sum_by h xs)) ∙ ap (λ a. a + sum_by h xs) (sym (none x dropped)) ∙ sym (sum_by-cons h x xs)
    ]

sub-zero : (n : ℕ) → n - 0 ≡ n
sub-zero n = omega arith

nought : (c : ℕ) → nat_lt 0 c ≡ false → c ≡ 0
nought c none = let most = ltb-false 0 c none in omega (arith, most)

pub row_sums : RowSums
row_sums web i j f none =
    sum_kept {A = ℕ × ℕ} (λ s. nat_lt 0 s.1) (λ k. (k, count_of web i j k)) (λ s. f s.0 s.1) (λ k. f k (count_of web i j k)) (λ k. refl)
    (λ k dropped. ap (f k) (nought (count_of web i j k) dropped) ∙ none k) (range_with_len 0 (web.simples - 0))
    ∙ ap (λ m. sum_by (λ k. f k (count_of web i j k)) (range_with_len 0 m)) (sub-zero web.simples)

pub into_sums : IntoSums
into_sums web k f none =
    let n = web.simples in
    sum_kept {A = ℕ × ℕ × ℕ} (λ s. nat_lt 0 s.2) (λ q. (q / n, q % n, count_of web (q / n) (q % n) k)) (λ s. f s.0 s.1 s.2) (λ q. f (q / n) (q % n) (count_of web (q / n) (q % n) k)) (λ q. refl)
    (λ q dropped. ap (f (q / n) (q % n)) (nought (count_of web (q / n) (q % n) k) dropped) ∙ none (q / n) (q % n)) (range_with_len 0 (n * n - 0))
    ∙ ap (λ m. sum_by (λ q. f (q / n) (q % n) (count_of web (q / n) (q % n) k)) (range_with_len 0 m)) (sub-zero (n * n))

or_none : (found : Option Entry) → option_or found None ≡ found
or_none None = refl
or_none (Some x) = refl

pub counts_grow : CountsGrow
counts_grow web e is new i j k =
    let count : Option Entry → ℕ = λ found. option_map_or (λ (e : Entry). e.count) found 0 in
    ap count (find-append (is_entry_of i j k) web.entries (e ∷ []))
    ∙ elim (cases (is_entry_of i j k e)) [
      | inl same ↦
          let here = is_of i j k e same in
          let none : find (is_entry_of i j k) web.entries ≡ None =
          find_none (is_entry_of i j k) web.entries no_entry
          (λ q below passes.
          let there = is_of i j k (entry_at web.entries q) passes in
          absent web e.i e.j e.k is new q below
          (record { i_is = there.i_is ∙ sym here.i_is; j_is = there.j_is ∙ sym here.j_is; k_is = there.k_is ∙ sym here.k_is })) in
          ap (λ found. count (option_or found (cond (is_entry_of i j k e) (Some e) None))) none
          ∙ ap (λ b. count (option_or None (cond b (Some e) None))) same ∙ sym (ap (λ b. cond b e.count (count_of web i j k)) same)
      | inr other ↦
          ap (λ b. count (option_or (find (is_entry_of i j k) web.entries) (cond b (Some e) None))) other ∙ ap count (or_none (find (is_entry_of i j k) web.entries))
          ∙ sym (ap (λ b. cond b e.count (count_of web i j k)) other)
    ]
