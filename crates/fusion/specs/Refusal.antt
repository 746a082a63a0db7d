-- What a refusal of fusion numbers says.
use Rattle.std.specs.Prelude.{◌≡◌, ℕ, Some}
use Rattle.cyclotomic.specs.CyclotomicRing.{cyclotomic_value}
use Rattle.qd_ring.specs.declared.cyc.Cyc.{Cyc}
use Rattle.transport.specs.Simples.{SimplesOver}
use Rattle.transport.specs.Fusion.{fusion_sum}
use Rattle.fusion.specs.Numbers.{whole_fault}
use Rattle.fusion.specs.Sites.{IsOverflow}
use Rattle.fusion.specs.declared.refusal.FusionRefusal.{FusionRefusal}
use Rattle.fusion.specs.declared.refusal.FusionRefusal.TheVariants.{NotWhole, Overflow, Memory}

module _ (k : ℕ) (s : SimplesOver) where
  -- the fusion sum of i, j and l is this value, and it is the first that isn't the order of the group times a whole number of at least 0
  pub record IsFirstNotWhole (i j l : ℕ) (value : Cyc k) : Type 0 where
    pub first_is : whole_fault k s ≡ Some (i, j, l)
    pub value_is : cyclotomic_value k value.coefficients ≡ (fusion_sum k s i j l).value

  -- the first fusion sum that isn't whole, or the site of a sum that overflows; want of memory says nothing
  abbrev pub Refuses : FusionRefusal k → Type 0
  Refuses (NotWhole i j l value) = IsFirstNotWhole i j l value
  Refuses (Overflow site) = IsOverflow k s site
  Refuses Memory = Unit {0}
