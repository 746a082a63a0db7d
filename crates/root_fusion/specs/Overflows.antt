-- The sites at which sums could overflow: of simples whose values are sums of roots of unity none does.
use Rattle.std.specs.Prelude.{◌≡◌, ℕ}
use Rattle.qd_ring.specs.declared.site.Site.{Site}
use Rattle.transport.specs.Simples.{SimplesOver, count}
use Rattle.modular_st.specs.Numerators.{IsOverflow as IsNumeratorOverflow}
use Rattle.fusion_web.specs.Entries.{WebEntries, count_of}
use Rattle.fusion.specs.Sites.{IsOverflow as IsFusionOverflow}
use Rattle.fusion.specs.Reads.{plane_of}
use Rattle.root_fusion.specs.IndicatorLists.{numbers_into}

module _ (k : ℕ) (s : SimplesOver) where
  -- no numerator of S overflows
  abbrev pub NumeratorsNeverOverflow : Type 0
  NumeratorsNeverOverflow = (site : Site) → IsNumeratorOverflow k s site → ⊥

  -- no full character, no character of a tensor product and no fusion sum does
  abbrev pub FusionNeverOverflows : Type 0
  FusionNeverOverflows = (site : Site) → IsFusionOverflow k s site → ⊥

-- a plane of a web of all simples has the numbers that an indicator is formed of
abbrev pub PlanesAreNumbers : Type 0
PlanesAreNumbers =
    (k : ℕ) (s : SimplesOver) (web : WebEntries) → web.simples ≡ count k s → (l : ℕ) → plane_of web l ≡ numbers_into k s (count_of web) l
