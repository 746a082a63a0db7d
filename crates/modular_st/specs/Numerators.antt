-- The numerators of the matrix S, term by term, and their sites.
use Rattle.std.specs.Prelude.{◌≡◌, ℕ, ◌/◌, ◌%◌, ◌<◌, false}
use Rattle.group_table.specs.Group.{commute}
use Rattle.table_check.specs.Formed.{Formed, where_so}
use Rattle.transport.specs.Simples.{SimplesOver, count}
use Rattle.transport.specs.SSums.{pair_term, s_sum}
use Rattle.qd_ring.specs.declared.site.Part.TheVariants.{S}
use Rattle.qd_ring.specs.declared.site.Site.{Site}

-- the site of the numerator at i and j
abbrev pub s_site : ℕ → ℕ → Site
s_site i j = record { part = S; at = 0; i = i; j = j; x = 0 }

module _ (k : ℕ) (s : SimplesOver) where
  -- the term of the numerator at i and j for the pair of elements with the number p
  abbrev pub s_term : ℕ → ℕ → ℕ → Formed k
  s_term i j p = let n = s.cocycle.group.order in where_so k (commute s.cocycle.group (p / n) (p % n)) (pair_term k s i j (p / n) (p % n))

  -- the site of a numerator that overflows
  pub record IsOverflow (site : Site) : Type 0 where
    pub i_below : site.i < count k s
    pub j_below : site.j < count k s
    pub site_is : site ≡ s_site site.i site.j
    pub overflows : (s_sum k s site.i site.j).fits ≡ false
