-- The causes that the rows of a modulus can have, and what holds of the rows where no lift has one.
use Rattle.qd_steps.proofs.Names.{◌≡◌, ℕ, ◌<◌, List, length, Bool, true, false, Option, Some, None, refl, sym, ap, subst, ◌∙◌, option_and_then, option_map, option_or, representatives, representative_at, Cochain, ModRing, TwistedSubgroup, size, central_value, central_characters, character_ratios, Characters, RowsOver, characters_of, fit_at, Miss, characters, twist_fault, twist_rows, Block, Cause, ◌≢◌, ◌⊎◌, inl, inr, if◌then◌else◌, first_some, first_none-at, twist_table, twist_rows_are_roots, twist_rows_miss_clauses, class_twist, class_table, failure, cause_of_miss, table_cause, tables_cause, simples_over, cause_of_lift, lift_cause, lifts_cause, lifted_blocks, modulus_cause, ServesCocycle, IsModulusCause}
use Rattle.root_tables.specs.RootRows.{AreRootRows, HasRootRows}
use Rattle.char_lift.specs.Candidate.{degree_of}
use Rattle.char_lift.specs.Faults.{lift_fault, row_fault, fault_with, place_fault}
use Rattle.char_lift.specs.declared.refusal.LiftRefusal.{LiftRefusal}
use Rattle.char_lift.specs.declared.refusal.LiftRefusal.TheVariants as lifts
use Rattle.table_check.specs.Check.{table_miss}
use Rattle.table_check.specs.declared.miss.Clause.{Clause}
use Rattle.table_check.specs.declared.miss.Clause.TheVariants as clauses
use Rattle.qd_steps.proofs.TableSteps.{tables_length, tables_at}
use Rattle.qd_steps.proofs.LiftedRows.{lifted_at, lifted_rows_at, class_serves}

-- ---- what fails first in a lift is a degree or multiplicities, never want of memory
not_memory : (holds : Bool) (row x sum d : ℕ) → (if holds then None else Some (lifts.Multiplicity row x sum d)) ≢ Some lifts.Memory
not_memory true row x sum d e = cc
not_memory false row x sum d e = cc

module _ (s : TwistedSubgroup) (q k z : ℕ) where
  with_degree : (row : ℕ) (c : List ℕ) (degree : Option ℕ) → fault_with s q k z row c degree ≢ Some lifts.Memory
  with_degree row c (Some d) e =
      let found = first_some (size s) (place_fault s q k z row c d) lifts.Memory e in
      not_memory _ _ _ _ _ found.here
  with_degree row c None e = cc

  of_row : (row : ℕ) (c : List ℕ) → row_fault s q k z row c ≢ Some lifts.Memory
  unfolding row_fault
  of_row row c e = with_degree row c (degree_of s q k z c) e

  of_rows : (count : ℕ) (rows : ℕ → ℕ → ℕ) → lift_fault s q k z count rows ≢ Some lifts.Memory
  unfolding lift_fault
  of_rows count rows e =
      let found = first_some count (λ row. row_fault s q k z row (character_ratios s q k z (rows row))) lifts.Memory e in
      of_row found.place (character_ratios s q k z (rows found.place)) found.here

of_twist : (ring : ModRing) (s : TwistedSubgroup) → twist_fault ring s ≢ Some lifts.Memory
unfolding twist_fault
of_twist ring s e = of_rows s ring.q ring.conductor ring.root (length (central_characters ring s)) (central_value (characters ring s)) e

-- so that where there is no cause, nothing fails
no_fault : (at : ℕ) (fault : Option LiftRefusal) → fault ≢ Some lifts.Memory → option_and_then (cause_of_lift at) fault ≡ None → fault ≡ None
no_fault at None apart e = refl
no_fault at (Some (lifts.NoDegree row s)) apart e = absurd cc
no_fault at (Some (lifts.Multiplicity row x sum degree)) apart e = absurd cc
no_fault at (Some lifts.Memory) apart e = absurd (apart refl)

-- ---- what is said of a cause
same_cause : {a b : Cause} → Some a ≡ Some b → a ≡ b
same_cause e = cc

lift_said : (at : ℕ) (fault : Option LiftRefusal) (cause : Cause) → option_and_then (cause_of_lift at) fault ≡ Some cause → IsModulusCause cause
lift_said at None cause e = absurd cc
lift_said at (Some (lifts.NoDegree row s)) cause e = subst IsModulusCause (same_cause e) tt
lift_said at (Some (lifts.Multiplicity row x sum degree)) cause e = subst IsModulusCause (same_cause e) tt
lift_said at (Some lifts.Memory) cause e = absurd cc

or_some : (front last : Option Cause) (cause : Cause) → option_or front last ≡ Some cause → (front ≡ Some cause) ⊎ ((front ≡ None) × (last ≡ Some cause))
or_some None last cause e = inr (refl, e)
or_some (Some a) last cause e = inl e

module _ {k : ℕ} (s : TwistedSubgroup) (table : Characters k) where
  clause_said : (clause : Clause) (miss : Miss) → clause ≢ clauses.Count → IsModulusCause (failure s table clause miss)
  clause_said clauses.Count miss apart = absurd (apart refl)
  clause_said clauses.Degree miss apart = tt
  clause_said clauses.Unitary miss apart = tt
  clause_said clauses.Twist miss apart = tt
  clause_said clauses.Central miss apart = tt
  clause_said clauses.Product miss apart = tt
  clause_said clauses.Sum miss apart = tt
  clause_said clauses.Column miss apart = tt
  clause_said clauses.Vacuum miss apart = tt

  miss_said : (miss : Miss) → fit_at s table miss ≡ true → miss.clause ≢ clauses.Count → IsModulusCause (cause_of_miss s table miss)
  miss_said miss fit apart = rw fit (clause_said miss.clause miss apart)

  table_said : (missed : Option Miss) (cause : Cause) → ((miss : Miss) → missed ≡ Some miss → (fit_at s table miss ≡ true) × (miss.clause ≢ clauses.Count))
      → option_map (cause_of_miss s table) missed ≡ Some cause → IsModulusCause cause
  table_said None cause misses e = absurd cc
  table_said (Some miss) cause misses e = let of_miss = misses miss refl in subst IsModulusCause (same_cause e) (miss_said miss of_miss.0 of_miss.1)

-- ---- all classes
module _ (ring : ModRing) (w : Cochain) where
  faultless : lifts_cause ring w ≡ None → (c : ℕ) → c < length (representatives w.group) → twist_fault ring (class_twist w c) ≡ None
  unfolding lifts_cause
  faultless lifted c below =
      no_fault (representative_at w.group c) (twist_fault ring (class_twist w c)) (of_twist ring (class_twist w c))
      (first_none-at (length (representatives w.group)) c (lift_cause ring w) lifted below)

  -- the lifted rows are rows of sums of roots of unity
  pub lifted_root_rows : ServesCocycle ring w → lifts_cause ring w ≡ None → HasRootRows ring.conductor (simples_over w (lifted_blocks ring w))
  lifted_root_rows serves lifted c below =
      let s = class_twist w c in
      let in_range : c < length (representatives w.group) = subst (λ n. c < n) (tables_length w (lifted_blocks ring w)) below in
      let same = tables_at w (lifted_blocks ring w) c in_range ∙ sym (lifted_rows_at ring w c s (twist_rows ring s) in_range refl refl) in
      subst (λ (table : RowsOver). AreRootRows table.over (characters_of ring.conductor table.rows)) (sym same)
      (twist_rows_are_roots ring s (class_serves ring w serves c in_range) (faultless lifted c in_range)).2

  lifts_said : (cause : Cause) → lifts_cause ring w ≡ Some cause → IsModulusCause cause
  unfolding lifts_cause
  lifts_said cause e =
      let found = first_some (length (representatives w.group)) (lift_cause ring w) cause e in
      lift_said (representative_at w.group found.place) (twist_fault ring (class_twist w found.place)) cause found.here

  tables_said : ServesCocycle ring w → lifts_cause ring w ≡ None → (cause : Cause) → tables_cause w ring.conductor (lifted_blocks ring w) ≡ Some cause → IsModulusCause cause
  unfolding tables_cause
  tables_said serves lifted cause e =
      let found = first_some (length (representatives w.group)) (λ c. table_cause (class_twist w c) (class_table ring.conductor (lifted_blocks ring w) c)) cause e in
      let s = class_twist w found.place in
      let same : class_table ring.conductor (lifted_blocks ring w) found.place ≡ twist_table ring s =
      ap (λ (b : Block). characters_of ring.conductor b.rows) (lifted_at ring w found.place found.below) in
      table_said s (twist_table ring s) (table_miss s (twist_table ring s)) cause
      (twist_rows_miss_clauses ring s (class_serves ring w serves found.place found.below) (faultless lifted found.place found.below))
      (subst (λ (table : Characters ring.conductor). table_cause s table ≡ Some cause) same found.here)

  -- neither for a number of rows nor for a side that overflows
  pub modulus_said : ServesCocycle ring w → (cause : Cause) → modulus_cause ring w ≡ Some cause → IsModulusCause cause
  unfolding modulus_cause
  modulus_said serves cause e =
      elim (or_some (lifts_cause ring w) (tables_cause w ring.conductor (lifted_blocks ring w)) cause e) [
        | inl lift ↦ lifts_said cause lift
        | inr table ↦ tables_said serves table.0 cause table.1
      ]
