-- Frobenius-Schur indicators, times the square of the order of the group (Bantay 1997 for order 2; Ng, Schauenburg 2007 for every order).
use Rattle.std.specs.Prelude.{ℕ, ◌+◌, ◌-◌, ◌*◌, ◌/◌, ◌%◌, List, length, slice_index}
use Rattle.qd_ring.specs.Formed.{Formed, given, whole, multiplied, turned, listed}
use Rattle.qd_ring.specs.declared.site.Part.TheVariants.{Indicator}
use Rattle.qd_ring.specs.declared.site.Site.{Site}

-- the exponent of (T_i/T_j)^m, where T_i and T_j are the roots with exponents t and u below K
abbrev pub quotient_exponent : ℕ → ℕ → ℕ → ℕ → ℕ
quotient_exponent k m t u = (m * (t + (k - u))) % k

module _ (k : ℕ) (dims twists : List ℕ) (m : ℕ) where
  -- N D_i D_j (T_i/T_j)^m, where N is the fusion number of i and j
  abbrev pub indicator_term : ℕ → ℕ → ℕ → Formed k
  indicator_term number i j =
      turned k (quotient_exponent k m (slice_index twists i) (slice_index twists j))
      (multiplied k (multiplied k (given k (whole k number)) (given k (whole k (slice_index dims i)))) (given k (whole k (slice_index dims j))))

module _ (k : ℕ) (plane dims twists : List ℕ) (m : ℕ) where
  -- that of the pair with the number q, row after row
  abbrev pub term_at : ℕ → Formed k
  term_at q = let r = length dims in indicator_term k dims twists m (slice_index plane q) (q / r) (q % r)

  -- the sum of these over all pairs
  abbrev pub indicator_sum : Formed k
  indicator_sum = listed k (length dims * length dims) term_at

-- the site of the indicator of a simple
abbrev pub indicator_site : ℕ → Site
indicator_site simple = record { part = Indicator; at = simple; i = 0; j = 0; x = 0 }
