-- The names that the proofs of this crate use, of the standard library, of the crates below and of its own specs.
pub use Rattle.std.proofs.Common.{Bool, Err, List, None, Ok, Option, Result, Some, [], add-one, ap, append_assoc, arith, codes, cond, drop, drop-cons, false, get_or, inl, inr, length, length-append, length-drop, map, nat_eq, nat_le, nat_lt, not, pos, refl, replicate, set, subst, suc, sym, take, true, vec_len, zero, zero-add, ℕ, ℤ, ◌%◌, ◌&&◌, ◌*◌, ◌++◌, ◌+◌, ◌-◌, ◌<◌, ◌==◌, ◌^◌, ◌||◌, ◌∙◌, ◌∷◌, ◌≡◌, ◌≢◌, ◌≤◌, ◌⊎◌}
pub use Rattle.std.proofs.Math.Seq.{drop-append_seam, get_or-append_seam, set-append_seam, take-append_seam}
pub use Rattle.std.proofs.lemmas.Bool.{and_parts, cases_Bool, eq-eqb, eqb-false, eqb-true, le-leb, le-ltb, leb-true, lt-ltb, ltb-false, ltb-true, ne_eqb, true≢false}
pub use Rattle.std.proofs.lemmas.Grind.{flat_map-append, get_or-set_at}
pub use Rattle.std.proofs.lemmas.List.{append-nil, drop-append-le, drop-replicate, drop-take, drop_all, drop_at, get_or-drop, get_or-set_other, get_or-take, get_or_append_left, get_or_read, length-map, length-replicate, length-set, length-take, length-take-le, map-append, set_at, take-append-drop, take-append-le, take-take, take_all, take_at, take_more}
pub use Rattle.std.proofs.lemmas.List.Concat.{flat_map-cons}
pub use Rattle.std.proofs.lemmas.List.Elements.{All-drop, All-head, All-map, All-tail, All-take, recursion_from_All}
pub use Rattle.std.proofs.lemmas.List.Folds.{list_all-append}
pub use Rattle.std.proofs.lemmas.List.FromFn.{fill_by_all, get_or-map-range_with_len, length-map-range_with_len}
pub use Rattle.std.proofs.lemmas.List.Sums.{fold-append, sum_by-append, sum_by-cons, take_while-cons}
pub use Rattle.std.proofs.lemmas.Option.{slice_get-get_or, slice_get_past}
pub use Rattle.std.proofs.lemmas.Result.{err_from_is_err_and}
pub use Rattle.std.specs.Fmt.{decimal}
pub use Rattle.std.specs.List.{AllByRecursion, flat_map, list_all, list_any, range_with_len}
pub use Rattle.std.specs.Prelude.{All, IfOk, IfSome, MatchResult, OnErr, OnOk, find, fold, nat_abs, negsuc, slice_get, slice_index, slice_set, sum_by, unwrap_or}
unfoldable pub use Rattle.cyclotomic.specs.Conductors.{conductors, is_conductor, least_conductor, phi_of}
unfoldable pub use Rattle.cyclotomic.specs.Fit.{size_of}
pub use Rattle.qd_ring.proofs.CoefficientLaws.{coefficients_read}
pub use Rattle.qd_ring.proofs.NumeralLaws.{digits_numeral, leading_numeral}
pub use Rattle.qd_ring.proofs.TermLaws.{capped}
pub use Rattle.qd_ring.proofs.ValueLaws.{found_small, found_wide, nought_small, nought_spelled, unread}
pub use Rattle.qd_ring.proofs.ValueOutcomeLaws.{outcome_not_value, outcome_value, outcome_wide}
pub use Rattle.qd_ring.proofs.ValueTextLaws.{numeral_nonempty, terms_nil, terms_nought, terms_term}
pub use Rattle.qd_ring.specs.CycArrays.{is_nought}
unfoldable pub use Rattle.qd_ring.specs.CycArrays.{is_array, is_small}
pub use Rattle.qd_ring.specs.RowLists.{row_at}
pub use Rattle.qd_ring.specs.ValueOutcome.{IsRead}
unfoldable pub use Rattle.qd_ring.specs.ValueReading.{coefficients_of, term_after_sign, term_of}
pub use Rattle.qd_ring.specs.ValueText.{Spells, numeral, or_nought, power_text, sign_text, term_text, terms_text}
unfoldable pub use Rattle.qd_ring.specs.ValueText.{value_text}
pub use Rattle.qd_ring.specs.declared.plain.Plain.{Plain}
pub use Rattle.qd_ring.specs.declared.plain.ValueFault.{ValueFault}
pub use Rattle.qd_ring.specs.declared.plain.ValueFault.TheVariants.{NotValue}
pub use Rattle.qd_text.proofs.Decimals.{decimal_spells, digits_are_word, number_of-decimal}
pub use Rattle.qd_text.proofs.Lexemes.{and-true}
pub use Rattle.qd_text.proofs.Texts.{is_plain, text, words_of, words_of-blank, words_of-nil, words_of-word}
pub use Rattle.qd_text.specs.Numbers.{is_digit, value}
unfoldable pub use Rattle.qd_text.specs.Numbers.{number_of}
pub use Rattle.qd_text.specs.Tokens.{Lexeme, is_blank, is_token_byte, text_of, tokens, tokens_from}
unfoldable pub use Rattle.qd_text.specs.Tokens.{blanked, runs}
pub use Rattle.qd_text.specs.Words.{word_of}
pub use Rattle.qd_text.specs.declared.expected.Expected.{Expected}
pub use Rattle.qd_text.specs.declared.expected.Expected.TheVariants.{Characters, Conductor, Element, End, Nothing, Number, Omega, One, Qdouble, Table, Value}
pub use Rattle.qd_text.specs.declared.natural.NumberFault.{NumberFault}
pub use Rattle.qd_text.specs.declared.natural.NumberFault.TheVariants.{NotNumber}
pub use Rattle.scan.proofs.Places.{and_true, first_found, first_none-at, first_none-step}
unfoldable pub use Rattle.scan.specs.First.{first}
pub use lib.Pointwise.{pointwise, pointwise_decides}
pub use Rattle.qd_doc.specs.Blocks.{Block, block, block_at, last_rows, with_last_rows, with_row, with_value}
pub use Rattle.qd_doc.specs.Canonical.{IsNarrow, PrintedIsRead, are_trivial, block_lines, canonical_text, form_of, line, reduced, reduced_document, row_words}
unfoldable pub use Rattle.qd_doc.specs.Canonical.{canonical_lines, characters_lines, omega_lines, rows}
pub use Rattle.qd_doc.specs.Contents.{IsGivenInRange, IsInRange, IsValueOf, Parses, block_of, entry_at, numbers_at, words_before}
unfoldable pub use Rattle.qd_doc.specs.Contents.{blocks_of, characters_of, document_of, exponents_end, exponents_of, last_below, pieces, sparse_exponents}
pub use Rattle.qd_doc.specs.Grammar.{Run, after_characters, ending, number_at, once, refusal_at, text_at, times, what_after}
unfoldable pub use Rattle.qd_doc.specs.Grammar.{entry_runs, expected, exponent_runs, first_refusal, front_runs, kind_at, runs_after, stop_of}
pub use Rattle.qd_doc.specs.Kinds.{ClassOrEnd, ConductorNumber, ElementBelow, EndWord, FormWord, Natural, NoToken, OrderNumber, RootsNumber, ValueRowClassOrEnd, What, Word, is_word, judgement, number_refusal, value_refusal, wanted}
unfoldable pub use Rattle.qd_doc.specs.Kinds.{missing, refusal}
pub use Rattle.qd_doc.specs.Reading.{Fails, Gives, IsOffset, listing_of, read_listing, read_number, skip, ◌>>=◌}
unfoldable pub use Rattle.qd_doc.specs.Reading.{read, read_blocks, read_characters, read_document, read_end, read_entries, read_entry, read_exponents, read_given, read_numbers, read_order, read_roots, read_sparse}
pub use Rattle.qd_doc.specs.Section.{HasPlace, is_end, kind_after, part_of, stage_of, unless, with_part, word_part}
pub use Rattle.qd_doc.specs.StoredBlocks.{AreBlocks, head_at, rows_end, stored_blocks}
unfoldable pub use Rattle.qd_doc.specs.StoredBlocks.{rows_of}
pub use Rattle.qd_doc.specs.StoredValues.{AddsTerm, AreValues, IsTermOf, coefficient_of, power_of, value_of_terms}
unfoldable pub use Rattle.qd_doc.specs.StoredValues.{values_of}
pub use Rattle.qd_doc.specs.Stretches.{AreInOrder, first_start, item_stretch, stretches}
pub use Rattle.qd_doc.specs.Values.{begins_value, coefficients, padded, plain, plain_or_zeros, small_value}
unfoldable pub use Rattle.qd_doc.specs.Values.{value_of}
pub use Rattle.qd_doc.specs.declared.document.Document.{Document}
pub use Rattle.qd_doc.specs.declared.document.Form.{Form}
pub use Rattle.qd_doc.specs.declared.document.Form.TheVariants.{Bare, WithCharacters}
pub use Rattle.qd_doc.specs.declared.document.Given.{Given}
pub use Rattle.qd_doc.specs.declared.head.Head.{Head}
pub use Rattle.qd_doc.specs.declared.listing.Listing.TheVariants.{Dense, Sparse, Trivial}
pub use Rattle.qd_doc.specs.declared.part.Part.{Part}
pub use Rattle.qd_doc.specs.declared.part.Stage.{Stage}
pub use Rattle.qd_doc.specs.declared.refusal.DocRefusal.{DocRefusal}
pub use Rattle.qd_doc.specs.declared.refusal.DocRefusal.TheVariants.{Memory, Section, Syntax}
pub use Rattle.qd_doc.specs.declared.term.Term.{Term}
pub use Rattle.qd_doc.specs.declared.term.Term.TheVariants.{Great, Small}
