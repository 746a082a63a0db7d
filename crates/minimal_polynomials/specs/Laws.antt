-- Every class sum splits (Dixon 1967).
use Rattle.std.specs.Prelude.{◌≡◌, ℕ, ◌-◌, ◌<◌, List, length}
use Rattle.group_table.specs.Numbers.{passing_below}
use Rattle.prime_field.specs.declared.mod_ring.ModRing.{ModRing}
use Rattle.prime_field.specs.Evaluation.{is_root}
use Rattle.prime_field.specs.RingObject.{residue_field, residue_root}
use Rattle.twisted.specs.Twist.{TwistedSubgroup}
use Rattle.twisted.specs.Regular.{rank}
pub use Rattle.centre_powers.specs.CentralPowers.{Serves}
use Rattle.centre_algebra.specs.CentralCharacters.{regular_sum}
use Rattle.minimal_polynomials.specs.MinimalPolynomials.{IsMinimal}

-- f is the minimal polynomial of the class sum of the i-th regular class
abbrev pub IsMinimalOfClass : ModRing → TwistedSubgroup → ℕ → List ℕ → Type 0
IsMinimalOfClass ring s i f = IsMinimal ring s (regular_sum (residue_field ring) (residue_root ring) s i) f

-- each class sum of a twist that the field serves has a minimal polynomial
abbrev pub HaveMinimalPolynomials : ModRing → Type 0
HaveMinimalPolynomials ring =
    (s : TwistedSubgroup) → Serves ring s → (i : ℕ) → i < rank s → (f : List ℕ) × IsMinimalOfClass ring s i f

-- and this polynomial has as many roots modulo q as its degree
abbrev pub EveryClassSumSplits : ModRing → Type 0
EveryClassSumSplits ring =
    (s : TwistedSubgroup) → Serves ring s → (i : ℕ) → i < rank s → (f : List ℕ) → IsMinimalOfClass ring s i f
    → length (passing_below ring.q (is_root ring.q f)) ≡ length f - 1
