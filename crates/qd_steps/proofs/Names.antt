-- Names of the standard library, of the crates below and of the definitions of this crate, for its proofs.
pub use Rattle.centre_powers.specs.CentralPowers.{Serves}
pub use Rattle.char_lift.specs.Ratios.{character_ratios}
pub use Rattle.character_lists.specs.CharacterLists.{central_characters}
pub use Rattle.classes.specs.Conjugacy.{representative_at, representatives}
pub use Rattle.cochain.specs.Cochain.{Cochain, IsCocycle}
pub use Rattle.cyclotomic.specs.Conductors.{is_conductor}
pub use Rattle.data_print.specs.declared.cause.Cause.{Cause}
pub use Rattle.dixon_split.specs.CentralLists.{central_value}
pub use Rattle.group_table.specs.Group.{Table, identity_of, product}
pub use Rattle.prime_field.specs.declared.mod_ring.ModRing.{ModRing}
pub use Rattle.qd_doc.specs.Blocks.{Block, block, block_at}
pub use Rattle.qd_ring.specs.RowLists.{row_at, with_value}
unfoldable pub use Rattle.qd_steps.specs.ByModulus.{field_of, lifted_blocks, lifts_cause, modulus_cause}
pub use Rattle.qd_steps.specs.ByModulus.{cause_of_lift, field_by, lift_cause, lifted_block}
unfoldable pub use Rattle.qd_steps.specs.ClassTwists.{class_twists}
pub use Rattle.qd_steps.specs.ClassTwists.{all_lifted, all_stated, first_lift_cause, lift_cause_over, lifted_over, stated_over, twist_in}
pub use Rattle.qd_steps.specs.Laws.{IsModulusCause, ServesCocycle}
pub use Rattle.qd_steps.specs.Matched.{IsMatched}
pub use Rattle.qd_steps.specs.Refused.{IsRefusalFor}
unfoldable pub use Rattle.qd_steps.specs.Tables.{tables_cause, tables_of}
pub use Rattle.qd_steps.specs.Tables.{cause_of_miss, cause_over, class_rows, class_table, class_twist, equation, failure, first_cause, plain_of, simples_over, table_cause}
pub use Rattle.qd_steps.specs.declared.refusal.StepRefusal.{StepRefusal}
pub use Rattle.scan.proofs.Places.{first-ext, first-zero, first_found, first_none-at, first_none-step, first_some}
pub use Rattle.scan.specs.First.{first, option_or}
unfoldable pub use Rattle.slant.specs.Twists.{twist_of}
pub use Rattle.std.proofs.Common.{Bool, Err, IfErr, IfOk, List, None, OnOk, Option, Some, [], ap, append_assoc, arith, eqb-true, false, get_or, inl, inr, le_antisymm, length, length-append, map, refl, set, subst, sym, take, true, ℕ, ◌%◌, ◌++◌, ◌+◌, ◌-◌, ◌<◌, ◌∙◌, ◌∷◌, ◌≡◌, ◌≢◌, ◌⊎◌}
pub use Rattle.std.proofs.Math.Seq.{get_or-append_seam, set-append_seam, take-length}
pub use Rattle.std.proofs.lemmas.List.{get_or_push, map_more, take_more}
pub use Rattle.std.proofs.lemmas.List.FromFn.{fill_by_all, get_or-map-range_with_len, length-map-range_with_len, map-range_with_len_more}
pub use Rattle.std.proofs.lemmas.Result.{err_from_is_err_and}
pub use Rattle.std.specs.List.{range_with_len}
pub use Rattle.std.specs.Option.{option_and_then, option_map}
pub use Rattle.std.specs.Prelude.{if◌then◌else◌, ℤ, ◌==◌}
pub use Rattle.std.specs.Vec.Iter.{into_iter_items}
pub use Rattle.table_check.specs.Answers.{Checks, IsEquationOf, Refuses, clause_of, fit_at, left_of, right_of}
pub use Rattle.table_check.specs.Characters.{Characters, IsShaped, RowsOver, characters_of}
pub use Rattle.table_check.specs.declared.miss.Miss.{Miss}
pub use Rattle.transport.specs.Simples.{HasTables, no_table, table_at}
pub use Rattle.twist_lift.proofs.TwistLaws.{period_modulus, twist_rows_are_roots, twist_rows_miss_clauses}
pub use Rattle.twist_lift.specs.Laws.{root_order, twist_table}
unfoldable pub use Rattle.twist_lift.specs.TwistRows.{twist_fault, twist_rows}
pub use Rattle.twist_lift.specs.TwistRows.{characters}
pub use Rattle.twisted.specs.Regular.{rank}
pub use Rattle.twisted.specs.Twist.{TwistedSubgroup, size}
pub use mathlib.Core.Path.{ap₂}
