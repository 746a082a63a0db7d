-- The rows that a modulus gives: the field, the lifted rows of all classes, and the cause where some class has none or its table misses
-- something (Dixon 1967).
use Rattle.std.specs.Prelude.{◌≡◌, ℕ, ◌%◌, ◌==◌, Bool, true, false, List, length, map, Option, Some, None}
use Rattle.std.specs.List.{range_with_len}
use Rattle.std.specs.Option.{option_and_then}
use Rattle.std.proofs.Common.{refl}
use Rattle.std.proofs.lemmas.Bool.{eqb-false}
use Rattle.scan.specs.First.{first, option_or}
use Rattle.cochain.specs.Cochain.{Cochain}
use Rattle.classes.specs.Conjugacy.{representatives, representative_at}
use Rattle.cyclotomic.specs.Conductors.{is_conductor}
use Rattle.prime_field.specs.Moduli.{is_modulus, least_root}
use Rattle.prime_field.specs.declared.mod_ring.ModRing.{ModRing}
use Rattle.char_lift.specs.declared.refusal.LiftRefusal.{LiftRefusal}
use Rattle.char_lift.specs.declared.refusal.LiftRefusal.TheVariants as lifts
use Rattle.twist_lift.specs.TwistRows.{twist_fault, twist_rows}
use Rattle.qd_doc.specs.Blocks.{Block, block}
use Rattle.data_print.specs.declared.cause.Cause.{Cause}
use Rattle.data_print.specs.declared.cause.Cause.TheVariants.{NoDegree, Multiplicity}
use Rattle.qd_steps.specs.Tables.{class_twist, tables_cause}

module _ (q k : ℕ) where
  -- the field with the least root, by the answers of what is asked of q and K: whether q is listed, whether K is a conductor, whether q
  -- divides K, and the least root modulo q of Phi_K
  abbrev pub field_by : (listed entry divides : Bool) (root : Option ℕ)
      → is_modulus q ≡ listed → is_conductor k ≡ entry → (k % q == 0) ≡ divides → least_root q k ≡ root → Option ModRing
  field_by true true false (Some z) listed entry apart least =
      Some (record { q = q; conductor = k; root = z; listed = listed; entry = entry; apart = eqb-false (k % q) 0 apart; least = least })
  field_by listed entry divides root is_listed is_entry is_divisor is_root = None

  -- the field of residues modulo q with the least root modulo q of Phi_K, where q is a modulus that is valid for the conductor K
  unfoldable pub field_of : Option ModRing
  field_of = field_by (is_modulus q) (is_conductor k) (k % q == 0) (least_root q k) refl refl refl refl

-- why a class has no lifted rows, by what fails first in it; want of memory is no reason
abbrev pub cause_of_lift : ℕ → LiftRefusal → Option Cause
cause_of_lift at (lifts.NoDegree row s) = Some (NoDegree at row s)
cause_of_lift at (lifts.Multiplicity row x sum degree) = Some (Multiplicity at row x sum degree)
cause_of_lift at lifts.Memory = None

module _ (ring : ModRing) (w : Cochain) where
  -- why the class with the number c has no lifted rows
  abbrev pub lift_cause : ℕ → Option Cause
  lift_cause c = option_and_then (cause_of_lift (representative_at w.group c)) (twist_fault ring (class_twist w c))

  -- why the first class without lifted rows has none, by the order of the classes
  unfoldable pub lifts_cause : Option Cause
  lifts_cause = first (length (representatives w.group)) lift_cause

  -- the lifted rows of the class with the number c, and its representative
  abbrev pub lifted_block : ℕ → Block
  lifted_block c = block (representative_at w.group c) (twist_rows ring (class_twist w c))

  -- those of all classes, in order
  unfoldable pub lifted_blocks : List Block
  lifted_blocks = map lifted_block (range_with_len 0 (length (representatives w.group)))

  -- why the modulus gives no simples: every class has lifted rows before the first table is checked
  unfoldable pub modulus_cause : Option Cause
  modulus_cause = option_or lifts_cause (tables_cause w ring.conductor lifted_blocks)
