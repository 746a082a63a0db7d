-- The residues modulo 3 with the root of unity 2, for a test.
use Rattle.std.proofs.Common.{◌≡◌, ◌≢◌, ℕ, ◌*◌, ◌%◌, ◌<◌, refl, ◌∙◌, ap, arith, lit<}
use Rattle.std.proofs.Math.Nat.{zero-mul, one-mul}
use Rattle.algebra.specs.Structures.{CommRing}
use Rattle.algebra.specs.Below.{Below, below_equal}
use Rattle.algebra.specs.Residues.{residue, residue_ring}
use Rattle.algebra.specs.Sums.{sum_below, multiple, power}
use Rattle.algebra.specs.Roots.{RootOfUnity}
use Rattle.algebra.proofs.RootLaws.{power_mod}

abbrev pub three : 0 < 3
three = lit< tt

abbrev pub thirds : CommRing (Below 3)
thirds = residue_ring 3 three

pub thirds_cycle : power thirds (residue 3 three 2) 2 ≡ thirds.one
unfolding power
thirds_cycle = below_equal _ _ refl

pub odd_power : (e : ℕ) → e % 2 ≢ 0 → power thirds (residue 3 three 2) e ≡ residue 3 three 2
unfolding power
odd_power e h =
    let odd : e % 2 ≡ 1 = omega arith in
    power_mod thirds (residue 3 three 2) 2 thirds_cycle e ∙ ap (λ k. power thirds (residue 3 three 2) k) odd ∙ below_equal _ _ refl

pub thirds_vanish : (e : ℕ) → e % 2 ≢ 0 → sum_below thirds 2 (λ j. power thirds (residue 3 three 2) (j * e)) ≡ thirds.nought
unfolding sum_below power
thirds_vanish e h =
    ap (λ a. thirds.add (thirds.add thirds.nought (power thirds (residue 3 three 2) a)) (power thirds (residue 3 three 2) (1 * e))) (zero-mul e)
    ∙ ap (λ a. thirds.add (thirds.add thirds.nought (power thirds (residue 3 three 2) 0)) a) (ap (λ k. power thirds (residue 3 three 2) k) (one-mul e) ∙ odd_power e h)
    ∙ below_equal _ _ refl

pub thirds_cancel : (x : Below 3) → multiple thirds 2 x ≡ thirds.nought → x ≡ thirds.nought
unfolding multiple
thirds_cancel x h = let doubled = ap (λ y. y.value) h in below_equal _ _ (omega (arith, doubled, x.below))

abbrev pub thirds_unit : RootOfUnity thirds 2
thirds_unit = record { root = residue 3 three 2; positive = lit< tt; cycle = thirds_cycle; sum_vanishes = thirds_vanish; cancel = thirds_cancel }
