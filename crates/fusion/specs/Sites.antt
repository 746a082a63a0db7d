-- The sites at which the sums of fusion numbers overflow.
use Rattle.std.specs.Prelude.{◌≡◌, ℕ, ◌<◌, false}
use Rattle.group_table.specs.Group.{Commute}
use mathlib.Core.Logic.{◌⊎◌}
use Rattle.transport.specs.Simples.{SimplesOver, count}
use Rattle.transport.specs.FullCharacters.{full_character}
use Rattle.transport.specs.Fusion.{tensor_character, fusion_sum}
use Rattle.transport.specs.Laws.{IsElement}
use Rattle.qd_ring.specs.declared.site.Part.TheVariants.{Full, Tensor, Inner}
use Rattle.qd_ring.specs.declared.site.Site.{Site}
use Rattle.fusion.specs.Numbers.{PairsBeforeAreWhole, SumsBeforeAreWhole}

-- the sites of the full character of i, and of the tensor character of i and j, at g and x, and that of the fusion sum of i, j and l
abbrev pub full_site : ℕ → ℕ → ℕ → Site
full_site i g x = record { part = Full; at = g; i = i; j = 0; x = x }

abbrev pub tensor_site : ℕ → ℕ → ℕ → ℕ → Site
tensor_site i j g x = record { part = Tensor; at = g; i = i; j = j; x = x }

abbrev pub inner_site : ℕ → ℕ → ℕ → Site
inner_site i j l = record { part = Inner; at = l; i = i; j = j; x = 0 }

module _ (k : ℕ) (s : SimplesOver) where
  -- g and x are elements that commute
  pub record IsCommutingPair (g x : ℕ) : Type 0 where
    pub g_below : IsElement s g
    pub x_below : IsElement s x
    pub commute : Commute s.cocycle.group g x

  -- the site of a full character that overflows
  pub record IsFullOverflow (site : Site) : Type 0 where
    pub i_below : site.i < count k s
    pub pair : IsCommutingPair site.at site.x
    pub site_is : site ≡ full_site site.i site.at site.x
    pub overflows : (full_character k s site.i site.at site.x).fits ≡ false

  -- the site of a tensor character that overflows, where all fusion sums before those of its simples are whole
  pub record IsTensorOverflow (site : Site) : Type 0 where
    pub i_below : site.i < count k s
    pub j_below : site.j < count k s
    pub pair : IsCommutingPair site.at site.x
    pub site_is : site ≡ tensor_site site.i site.j site.at site.x
    pub overflows : (tensor_character k s site.i site.j site.at site.x).fits ≡ false
    pub before : PairsBeforeAreWhole k s site.i site.j

  -- the site of a fusion sum that overflows, where all before it are whole
  pub record IsInnerOverflow (site : Site) : Type 0 where
    pub i_below : site.i < count k s
    pub j_below : site.j < count k s
    pub l_below : site.at < count k s
    pub site_is : site ≡ inner_site site.i site.j site.at
    pub overflows : (fusion_sum k s site.i site.j site.at).fits ≡ false
    pub before : SumsBeforeAreWhole k s site.i site.j site.at

  -- the site of a sum that overflows
  abbrev pub IsOverflow : Site → Type 0
  IsOverflow site = IsFullOverflow site ⊎ (IsTensorOverflow site ⊎ IsInnerOverflow site)
