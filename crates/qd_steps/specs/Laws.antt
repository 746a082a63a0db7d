-- What holds of the rows that a modulus gives.
use Rattle.std.specs.Prelude.{◌≡◌, ◌%◌, ◌<◌, Some, None}
use Rattle.cochain.specs.Cochain.{Cochain, IsCocycle}
use Rattle.prime_field.specs.declared.mod_ring.ModRing.{ModRing}
use Rattle.root_tables.specs.RootRows.{HasRootRows}
use Rattle.twist_lift.specs.Laws.{root_order}
use Rattle.data_print.specs.declared.cause.Cause.{Cause}
use Rattle.data_print.specs.declared.cause.Cause.TheVariants.{NoDegree, Multiplicity, Identity, NoTwist, NoVacuum}
use Rattle.qd_steps.specs.Matched.{IsMatched}
use Rattle.qd_steps.specs.Tables.{simples_over}
use Rattle.qd_steps.specs.ByModulus.{field_of, lifts_cause, lifted_blocks, modulus_cause}

-- a field is the one of its modulus and its conductor
abbrev pub IsFieldOfItsNumbers : ModRing → Type 0
IsFieldOfItsNumbers ring = field_of ring.q ring.conductor ≡ Some ring

-- the field is over the order of the group of the cocycle, and the number of its roots times the exponent of its group divides the
-- conductor
pub record ServesCocycle (ring : ModRing) (w : Cochain) : Type 0 where
  pub cocycle : IsCocycle w
  pub over : w.group.order < ring.q
  pub multiple : ring.conductor % root_order w ≡ 0

-- the blocks of the lifted rows match the classes
abbrev pub LiftedAreMatched : ModRing → Type 0
LiftedAreMatched ring = (w : Cochain) → IsMatched w.group (lifted_blocks ring w)

-- where every class has lifted rows, their values are sums of roots of unity
abbrev pub LiftedAreRootRows : ModRing → Type 0
LiftedAreRootRows ring =
    (w : Cochain) → ServesCocycle ring w → lifts_cause ring w ≡ None
    → HasRootRows ring.conductor (simples_over w (lifted_blocks ring w))

-- a cause that rows by a modulus can have: neither that they are too few or too many, nor a side that overflows
abbrev pub IsModulusCause : Cause → Type 0
IsModulusCause (NoDegree at row s) = Unit {0}
IsModulusCause (Multiplicity at row x sum degree) = Unit {0}
IsModulusCause (Identity name at i j x left right) = Unit {0}
IsModulusCause (NoTwist at row value) = Unit {0}
IsModulusCause (NoVacuum rows) = Unit {0}
IsModulusCause cause = ⊥

-- and no other
abbrev pub ModulusCauses : ModRing → Type 0
ModulusCauses ring =
    (w : Cochain) → ServesCocycle ring w → (cause : Cause) → modulus_cause ring w ≡ Some cause → IsModulusCause cause
