-- Webs of fusion numbers as lists of entries.
use Rattle.std.specs.Prelude.{◌≡◌, ℕ, ◌*◌, ◌-◌, ◌/◌, ◌%◌, ◌<◌, ◌≤◌, Bool, ◌==◌, ◌&&◌, nat_lt, List, length, slice_index_or, map, filter, find}
use Rattle.std.specs.List.{range_with_len}
use Rattle.std.specs.Option.{option_map_or}

-- the simple k comes `count` times in the product of i and j
pub record Entry : Type 0 where
  pub i : ℕ
  pub j : ℕ
  pub k : ℕ
  pub count : ℕ

-- the number of simples, and the entries in the order of their insertion
pub record WebEntries : Type 0 where
  pub simples : ℕ
  pub entries : List Entry

abbrev pub no_entry : Entry
no_entry = record { i = 0; j = 0; k = 0; count = 0 }

-- the entry at a place
abbrev pub entry_at : List Entry → ℕ → Entry
entry_at entries p = slice_index_or entries p no_entry

abbrev pub is_entry_of : ℕ → ℕ → ℕ → Entry → Bool
is_entry_of i j k e = ((e.i == i) && (e.j == j)) && (e.k == k)

-- the multiplicity of k in the product of i and j: the count of that entry, 0 where there is none
abbrev pub count_of : WebEntries → ℕ → ℕ → ℕ → ℕ
count_of web i j k = option_map_or (λ e. e.count) (find (is_entry_of i j k) web.entries) 0

-- simples that there are, at least once
pub record IsEntry (n : ℕ) (e : Entry) : Type 0 where
  pub i_below : e.i < n
  pub j_below : e.j < n
  pub k_below : e.k < n
  pub some : 1 ≤ e.count

-- no two entries are of the same three simples
abbrev pub AreApart : List Entry → Type 0
AreApart entries =
    (p q : ℕ) → p < length entries → q < length entries → (entry_at entries p).i ≡ (entry_at entries q).i → (entry_at entries p).j ≡ (entry_at entries q).j
    → (entry_at entries p).k ≡ (entry_at entries q).k → p ≡ q

-- the greatest number of entries
abbrev pub most_nodes : ℕ
most_nodes = 262144

-- a web has 1 to 256 simples, and at most 262,144 entries, no two of the same three simples
pub record IsWeb (web : WebEntries) : Type 0 where
  pub some : 1 ≤ web.simples
  pub few : web.simples ≤ 256
  pub limit : length web.entries ≤ most_nodes
  pub each : (p : ℕ) → p < length web.entries → IsEntry web.simples (entry_at web.entries p)
  pub apart : AreApart web.entries

-- the items for the numbers from x to n - 1 that are to be kept
abbrev pub kept_from : {A : Type 0} → (A → Bool) → (ℕ → A) → ℕ → ℕ → List A
kept_from keep item n x = filter keep (map item (range_with_len x (n - x)))

module _ (web : WebEntries) where
  -- each k from that one on that comes in the product of i and j, ascending, with its multiplicity
  abbrev pub row_from : ℕ → ℕ → ℕ → List (ℕ × ℕ)
  row_from i j k = kept_from (λ s. nat_lt 0 s.1) (λ k. (k, count_of web i j k)) web.simples k

  -- each k that comes in the product of i and j
  abbrev pub row_of : ℕ → ℕ → List (ℕ × ℕ)
  row_of i j = row_from i j 0

  -- each pair from number q on in whose product k comes, by i, then j, with its multiplicity; pairs are numbered row after row
  abbrev pub into_from : ℕ → ℕ → List (ℕ × ℕ × ℕ)
  into_from k q =
      let n = web.simples in
      kept_from (λ s. nat_lt 0 s.2) (λ q. (q / n, q % n, count_of web (q / n) (q % n) k)) (n * n) q

  -- each pair in whose product k comes
  abbrev pub into_of : ℕ → List (ℕ × ℕ × ℕ)
  into_of k = into_from k 0
