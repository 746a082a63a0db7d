-- Webs of fusion numbers while they are made.
use Rattle.std.specs.Prelude.{◌≡◌, ℕ, ◌+◌, ◌*◌, ◌≤◌, ◌<◌, nat_lt, length, if◌then◌else◌}
use Rattle.fusion_web.specs.Entries.{WebEntries, count_of, is_entry_of}
use Rattle.transport.specs.Simples.{SimplesOver, count}
use Rattle.fusion.specs.Numbers.{fusion_number}

-- the number of three of m simples, by the first, then the second, then the third
abbrev pub triple : ℕ → ℕ → ℕ → ℕ → ℕ
triple m a b c = (a * m + b) * m + c

-- the second web has this count at i, j and k, and else those of the first, with at most one more entry
pub record HasCount (before after : WebEntries) (i j k number : ℕ) : Type 0 where
  pub simples : after.simples ≡ before.simples
  pub few : length after.entries ≤ length before.entries + 1
  pub counts : (a b c : ℕ) → count_of after a b c ≡ (if is_entry_of a b c (record { i = i; j = j; k = k; count = number }) then number else count_of before a b c)

-- the web has the fusion numbers of the triples before q, and no others
pub record IsFront (k : ℕ) (s : SimplesOver) (q : ℕ) (web : WebEntries) : Type 0 where
  pub simples : web.simples ≡ count k s
  pub few : length web.entries ≤ q
  pub counts : (a b c : ℕ) → a < count k s → b < count k s → c < count k s
      → count_of web a b c ≡ (if nat_lt (triple (count k s) a b c) q then fusion_number k s a b c else 0)
