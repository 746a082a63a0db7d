-- What holds of the numbers of a report by theory, with no test of them (Coste, Gannon, Ruelle 2000; Verlinde 1988).
use Rattle.std.specs.Prelude.{ℕ}
use Rattle.transport.specs.Simples.{SimplesOver, AreSimples}
use Rattle.transport.specs.Headline.{HasModularData, IsFusionRule}
use Rattle.fusion.specs.Numbers.{fusion_number}

-- s are the simples of a twisted quantum double by good tables, and their numbers are modular data: their full characters are
-- orthogonal over the pairs of elements that commute; S is symmetric and unitary, with the dimensions as its first row, whose first
-- is 1 and whose squares add up to the square of the order of the group; the twists are the values of the central elements u_g; and S
-- and T satisfy the relations of the modular group
pub record AreModularData (k : ℕ) (s : SimplesOver) : Type 0 where
  pub simples : AreSimples k s
  pub modular : HasModularData k s

-- the fusion numbers of the simples s are a fusion rule: each fusion sum is the order of the group times the fusion number; these are
-- the multiplicities of simples in tensor products, they respect dimensions, and both forms of Verlinde's formula hold of them and S
abbrev pub HasFusionRule : ℕ → SimplesOver → Type 0
HasFusionRule k s = IsFusionRule k s (fusion_number k s)
