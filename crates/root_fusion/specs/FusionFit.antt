-- Fusion of simples whose values are sums of roots of unity, as the traces of matrices of finite order are (textbook): what fits.
use Rattle.std.specs.Prelude.{◌≡◌, ℕ, ◌≤◌, true}
use Rattle.qd_ring.specs.RootSums.{IsSumOfRoots}
use Rattle.transport.specs.Simples.{SimplesOver, AreSimples}
use Rattle.transport.specs.FullCharacters.{full_character}
use Rattle.transport.specs.Fusion.{tensor_character, fusion_sum}
use Rattle.transport.specs.Headline.{IsSimple}
use Rattle.root_tables.specs.RootRows.{HasRootRows}

-- the law holds of all simples by good tables whose values are sums of roots of unity
abbrev pub OfRootSimples : (ℕ → SimplesOver → Type 0) → Type 0
OfRootSimples Law = (k : ℕ) (s : SimplesOver) → AreSimples k s → HasRootRows k s → Law k s

module _ (k : ℕ) (s : SimplesOver) where
  -- each value of a full character is formed without overflow
  abbrev pub CharactersFit : Type 0
  CharactersFit = (i g x : ℕ) → IsSimple k s i → (full_character k s i g x).fits ≡ true

  -- and is a sum of at most 7 roots of unity
  abbrev pub CharactersAreRootSums : Type 0
  CharactersAreRootSums = (i g x : ℕ) → IsSimple k s i → (r : ℕ) × ((r ≤ 7) × IsSumOfRoots k r (full_character k s i g x).value)

  -- each value of the character of a tensor product is formed without overflow
  abbrev pub TensorProductsFit : Type 0
  TensorProductsFit = (i j g x : ℕ) → IsSimple k s i → IsSimple k s j → (tensor_character k s i j g x).fits ≡ true

  -- each fusion sum is formed without overflow
  abbrev pub FusionSumsFit : Type 0
  FusionSumsFit = (i j l : ℕ) → IsSimple k s i → IsSimple k s j → IsSimple k s l → (fusion_sum k s i j l).fits ≡ true
