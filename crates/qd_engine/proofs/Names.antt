-- Names of the standard library, of the crates below and of the definitions of this crate, for its proofs.
pub use Rattle.classes.proofs.Conjugacy.{representative_at_is}
pub use Rattle.classes.specs.Conjugacy.{representative_at, representatives}
pub use Rattle.cochain.proofs.Formula.{column_below, edge_below, row_below}
pub use Rattle.cochain.specs.Cochain.{Cochain, IsCochain, IsCocycle, cochain_of, cocycle_fault, reduced}
unfoldable pub use Rattle.cyclotomic.specs.Conductors.{is_conductor, least_conductor}
pub use Rattle.cyclotomic.specs.CyclotomicRing.{CyclotomicValue}
pub use Rattle.data_print.proofs.Fronts.{first_lines-more}
pub use Rattle.data_print.specs.IndicatorLines.{indicator_line}
pub use Rattle.data_print.specs.Lines.{line_of, memory_line}
unfoldable pub use Rattle.data_print.specs.Text.{first_lines}
pub use Rattle.data_print.specs.declared.cause.Cause.{Cause}
pub use Rattle.data_print.specs.declared.cause.Cause.TheVariants.{Modulus, NotWhole, Read, Shape, TooLong, Usage}
pub use Rattle.fusion.specs.Numbers.{fusion_number, pair_fault, quotient_at, simple_fault, sum_fault, whole_fault}
pub use Rattle.fusion_web.specs.Entries.{WebEntries, count_of}
pub use Rattle.group_make.specs.declared.refusal.MakeRefusal.{MakeRefusal}
pub use Rattle.group_table.proofs.Numbers.{passing_below-all}
pub use Rattle.group_table.specs.Group.{IsGroup, IsSmall, Table, group_fault, identity_of, product}
pub use Rattle.modular_st.specs.SMatrices.{row_values, s_front, s_rows, values_of_rows}
pub use Rattle.named_cocycles.proofs.Gauges.{sample_is_cocycle}
pub use Rattle.named_cocycles.proofs.Named.{made_is_cocycle}
pub use Rattle.named_cocycles.specs.Makers.{made_cocycle, maker_fault}
pub use Rattle.named_cocycles.specs.declared.maker.Maker.{Maker}
unfoldable pub use Rattle.prime_field.specs.Moduli.{is_modulus, least_root, modulus_fault}
pub use Rattle.prime_field.specs.declared.mod_ring.ModRing.{ModRing}
pub use Rattle.qd_doc.specs.Blocks.{Block, block, block_at, last_rows, with_last_rows, with_value}
unfoldable pub use Rattle.qd_doc.specs.Contents.{document_of}
pub use Rattle.qd_doc.specs.Contents.{IsInRange, IsValueOf}
unfoldable pub use Rattle.qd_doc.specs.Grammar.{stop_of}
pub use Rattle.qd_doc.specs.Kinds.{is_word}
pub use Rattle.qd_doc.specs.declared.document.Document.{Document}
pub use Rattle.qd_doc.specs.declared.document.Form.{Form}
pub use Rattle.qd_doc.specs.declared.document.Given.{Given}
pub use Rattle.qd_doc.specs.declared.refusal.DocRefusal.{DocRefusal}
pub use Rattle.qd_engine.specs.Acceptable.{AllFit, IsAcceptable, SourceFits}
pub use Rattle.qd_engine.specs.Answers.{Cut, Said, Whole, of_whole, refused, said_by, status_by, status_of, status_of_cause}
pub use Rattle.qd_engine.specs.Causes.{Agrees, AreGood, Comes, GiveFusionRule, GiveIdempotents, GiveModularData, GivesReport, HasInput, HasNumbers, HasRows, HasRule, IsAccepted, IsDone, IsLifted, IsVerified, Means, MeansSo, OfCommand, OfInput, OfRows, Refuses}
unfoldable pub use Rattle.qd_engine.specs.Certificate.{certified_blocks}
pub use Rattle.qd_engine.specs.Certificate.{certificate_document, certificate_text, certified_block}
pub use Rattle.qd_engine.specs.ClassLists.{IsKnownOf, IsListOf}
unfoldable pub use Rattle.qd_engine.specs.Documents.{conductor_of}
pub use Rattle.qd_engine.specs.Documents.{bare_document, document_for, document_in, exponents_of, given_in, given_or_none, table_of}
pub use Rattle.qd_engine.specs.Endings.{Decides, Ends, EndsSaying, IsRoomy, Prepares, Reads, Reports, Says, SaysPrepared, Takes, TakesFor, TakesRefused, Writing}
pub use Rattle.qd_engine.specs.Follows.{Follows, StopsLate, Tests}
pub use Rattle.qd_engine.specs.LiftedLaws.{IsStatedCause, LiftedAreSmall, LiftedCauses, LiftedSizes, LiftsRows, ValuesAreSmall}
pub use Rattle.qd_engine.specs.MakerWords.{maker_by, maker_of, maker_of_family, numbers_of}
pub use Rattle.qd_engine.specs.NumberWords.{number_word}
unfoldable pub use Rattle.qd_engine.specs.Report.{class_ranks, parts_text, s_lines}
pub use Rattle.qd_engine.specs.Report.{cocycle_report, indicator_of, numbers_text, part_text, report_in, report_of, row_part_text, rows_text, where_lifted}
pub use Rattle.qd_engine.specs.Rows.{AddsRows, AreRooted, HasWeb, IsWebOf, numbers_cause, source_of}
pub use Rattle.qd_engine.specs.Sources.{HasRowsFor, HasRowsOf, blocks_of, field_for, lifted_by}
pub use Rattle.qd_engine.specs.Summary.{how_many, sample_end, sample_start, sum_of_three}
unfoldable pub use Rattle.qd_engine.specs.Tests.{conductor_test, document_test, refusal, report_test}
pub use Rattle.qd_engine.specs.Tests.{ComesLate, Late, LateFor, LateIn, LatePart, LateReport, LateRows, answer_for, cocycle_test, first_of_all, group_test, input_test, lifted_tests, lifting_test, maker_test, modulus_test, not_whole, numbers_test, plan, report_unless, rows_test, scan_test, shape_test, simples_test, source_tests, stated_test, stated_tests, whole_test, without_conductor}
pub use Rattle.qd_engine.specs.Words.{certificate, command_of, form_by, form_for, form_of, generate, have_numbers, is_read, most_simples, read_of, reads_by, report_by, report_of_words, texts, verify_command}
pub use Rattle.qd_engine.specs.declared.answer.Outcome.{Outcome}
pub use Rattle.qd_engine.specs.declared.answer.Outcome.TheVariants.{Memory, Refused, Report}
pub use Rattle.qd_engine.specs.declared.answer.Why.{Why}
pub use Rattle.qd_engine.specs.declared.command.Command.{Command}
pub use Rattle.qd_engine.specs.declared.command.Input.{Input}
pub use Rattle.qd_engine.specs.declared.command.RowPart.{RowPart}
pub use Rattle.qd_engine.specs.declared.command.RowReport.{RowReport}
pub use Rattle.qd_engine.specs.declared.command.RowSource.{RowSource}
pub use Rattle.qd_engine.specs.declared.command.RowSource.TheVariants.{Lifted, Stated}
pub use Rattle.qd_engine.specs.declared.rows.Rows.{Rows}
pub use Rattle.qd_engine.specs.declared.stop.Stop.{Stop}
pub use Rattle.qd_io.specs.Stream.{HasRoom, Rises, TakesOver, TakesUpTo}
pub use Rattle.qd_io.specs.declared.reading.TheConstants.{INPUT_LIMIT}
pub use Rattle.qd_ring.proofs.RootSumLaws.{roots_fit, roots_size}
pub use Rattle.qd_ring.specs.CycArrays.{array_of}
pub use Rattle.qd_ring.specs.RowLists.{row_at, with_value as rows_with_value}
pub use Rattle.qd_ring.specs.declared.plain.Plain.{Plain}
pub use Rattle.qd_steps.proofs.ModulusCauses.{lifted_root_rows, modulus_said}
pub use Rattle.qd_steps.proofs.TableSteps.{one_table_each, table_shaped, tables_at, tables_length}
unfoldable pub use Rattle.qd_steps.specs.ByModulus.{field_of, lifts_cause, modulus_cause}
pub use Rattle.qd_steps.specs.ByModulus.{cause_of_lift, field_by, lift_cause, lifted_blocks}
unfoldable pub use Rattle.qd_steps.specs.ClassTwists.{class_twists}
pub use Rattle.qd_steps.specs.Laws.{IsModulusCause, ServesCocycle}
pub use Rattle.qd_steps.specs.Matched.{IsMatched}
unfoldable pub use Rattle.qd_steps.specs.Tables.{tables_cause, tables_of}
pub use Rattle.qd_steps.specs.Tables.{cause_of_miss, class_rows, class_table, class_twist, failure, plain_of, simples_over, table_cause}
unfoldable pub use Rattle.qd_text.specs.Numbers.{number_of}
pub use Rattle.qd_text.specs.Tokens.{Lexeme, tokens}
pub use Rattle.qd_text.specs.declared.natural.NumberFault.{NumberFault}
pub use Rattle.root_fusion.proofs.NoOverflows.{fusion_never_overflows, planes_are_numbers}
pub use Rattle.root_tables.proofs.SimpleRoots.{root_simples_fit}
pub use Rattle.root_tables.proofs.TableRoots.{degree_few, root_rows_fit}
pub use Rattle.root_tables.specs.RootRows.{AreRootRows, HasRootRows, IsRootRow}
pub use Rattle.row_order.specs.SimpleRows.{in_order, row_of, simple_rows, simples_in}
pub use Rattle.scan.proofs.Places.{and_true, first_none, first_none-at, first_some, or_none}
pub use Rattle.scan.specs.First.{option_or}
pub use Rattle.slant.proofs.TwistLaws.{twist_lawful}
unfoldable pub use Rattle.slant.specs.Twists.{twist_of}
pub use Rattle.std.proofs.Common.{All, Bool, Err, List, None, Ok, Option, Result, Some, [], ap, append_assoc, ap₂, arith, codes, cond, false, get_or, inl, inr, le_antisymm, length, length-append, map, nat_eq, not, refl, set, subst, suc, sym, take, true, zero, ℕ, ◌%◌, ◌&&◌, ◌*◌, ◌++◌, ◌+◌, ◌-◌, ◌/◌, ◌<◌, ◌^◌, ◌∙◌, ◌∷◌, ◌≡◌, ◌≢◌, ◌≤◌, ◌⊎◌}
pub use Rattle.std.proofs.Math.Nat.{div-add-mod, div-lt_iff_lt-mul, mod-eq_of_lt, mod-lt, mul-mod_right, mul_assoc}
pub use Rattle.std.proofs.lemmas.Bool.{eq-eqb, eqb-true, le-leb, le-ltb, leb-true, lt-ltb, ltb-true}
pub use Rattle.std.proofs.lemmas.List.{append-nil, get_or-map, get_or-set_same, get_or_default, get_or_push, length-map, length-set, map-append, set-get_or, set-set, take_more}
pub use Rattle.std.proofs.lemmas.List.Elements.{All-append, All-head, All-map, All-push, All-tail}
pub use Rattle.std.proofs.lemmas.List.FromFn.{fill_by_all, get_or-map-range_with_len, get_or-range_with_len, length-map-range_with_len, length-range_with_len, map-range_with_len_more}
pub use Rattle.std.proofs.lemmas.List.Sums.{count_by-le-length, sum_by_push}
pub use Rattle.std.proofs.lemmas.Result.{err_from_is_err_and}
pub use Rattle.std.specs.Global.{Global, Vec}
pub use Rattle.std.specs.Io.KnownBytes.{Appends, IsAtEnd}
pub use Rattle.std.specs.List.{flat_map, list_all, range_with_len}
pub use Rattle.std.specs.Option.{option_and_then, option_map}
pub use Rattle.std.specs.Prelude.{IfErr, IfSome, IsSome, OnOk, String, if◌then◌else◌, is_ok, is_some, nat_le, nat_lt, slice_get, slice_index, string_bytes, sum, unwrap_or, ℤ, ◌==◌}
pub use Rattle.table_check.specs.Characters.{Characters, IsShaped, RowsOver, characters_of}
pub use Rattle.table_check.specs.Good.{IsGood}
pub use Rattle.transport.specs.Fusion.{AreFusionNumbers, fusion_sum}
unfoldable pub use Rattle.transport.specs.Simples.{ascending, rows_below, simples_of}
pub use Rattle.transport.specs.Simples.{AreSimples, SimplesOver, class_at, count, dimension_at, no_table, over_at, rows_of, simple_at, table_at, twist_at, value_at}
pub use Rattle.twist_lift.specs.Laws.{root_order}
unfoldable pub use Rattle.twisted.specs.Regular.{is_regular, rank}
pub use Rattle.twisted.specs.Twist.{IsTwist, TwistedSubgroup, size}
