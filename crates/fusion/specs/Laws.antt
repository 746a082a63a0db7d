-- What a fusion number is, by its fusion sum.
use Rattle.std.specs.Prelude.{◌≡◌, ℕ, None}
use Rattle.transport.specs.Simples.{SimplesOver}
use Rattle.transport.specs.Fusion.{IsFusionNumber}
use Rattle.fusion.specs.Numbers.{fusion_number, sum_fault}

module _ (k : ℕ) (s : SimplesOver) where
  -- where the fusion sum is the order of the group times a number, that is the fusion number, and there is no fault
  pub record NumbersAreFound : Type 0 where
    pub number : (i j l number : ℕ) → IsFusionNumber k s i j l number → fusion_number k s i j l ≡ number
    pub no_fault : (i j l number : ℕ) → IsFusionNumber k s i j l number → sum_fault k s i j l ≡ None

  -- where there is no fault, the fusion sum is the order of the group times the fusion number
  abbrev pub NumbersAreOfSums : Type 0
  NumbersAreOfSums = (i j l : ℕ) → sum_fault k s i j l ≡ None → IsFusionNumber k s i j l (fusion_number k s i j l)
