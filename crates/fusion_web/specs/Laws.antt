-- Laws of webs: sums along their rings, and counts after an insertion.
use Rattle.std.specs.Prelude.{◌≡◌, ℕ, ◌*◌, ◌/◌, ◌%◌, [], ◌∷◌, ◌++◌, sum_by, if◌then◌else◌}
use Rattle.std.specs.List.{range_with_len}
use Rattle.fusion_web.specs.Entries.{Entry, WebEntries, IsWeb, count_of, is_entry_of, row_of, into_of}

-- a sum over all results of a pair is the sum along its ring, where it is 0 at those that don't come
abbrev pub RowSums : Type 0
RowSums =
    (web : WebEntries) (i j : ℕ) (f : ℕ → ℕ → ℕ) → ((k : ℕ) → f k 0 ≡ 0)
    → sum_by (λ s. f s.0 s.1) (row_of web i j) ≡ sum_by (λ k. f k (count_of web i j k)) (range_with_len 0 web.simples)

-- a sum over all pairs is the sum along the ring of a result, where it is 0 at those in whose product it doesn't come
abbrev pub IntoSums : Type 0
IntoSums =
    (web : WebEntries) (k : ℕ) (f : ℕ → ℕ → ℕ → ℕ) → ((i j : ℕ) → f i j 0 ≡ 0)
    → let n = web.simples in
    sum_by (λ s. f s.0 s.1 s.2) (into_of web k) ≡ sum_by (λ q. f (q / n) (q % n) (count_of web (q / n) (q % n) k)) (range_with_len 0 (n * n))

-- a new entry gives its count to its three simples, and all other counts stay
abbrev pub CountsGrow : Type 0
CountsGrow =
    (web : WebEntries) (e : Entry) → IsWeb web → count_of web e.i e.j e.k ≡ 0 → (i j k : ℕ)
    → count_of (record web { entries = web.entries ++ e ∷ [] }) i j k ≡ (if is_entry_of i j k e then e.count else count_of web i j k)
