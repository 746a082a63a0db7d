-- A command with lifted rows refuses nothing for a cause that only stated rows have.
use Rattle.qd_engine.proofs.Names.{◌≡◌, ℕ, Bool, true, false, cond, List, Option, Some, None, refl, sym, subst, inl, inr, nat_le, sum, option_map, option_or, Cochain, IsCocycle, cocycle_fault, group_fault, least_conductor, modulus_fault, ModRing, root_order, SimplesOver, whole_fault, MakeRefusal, maker_fault, stop_of, Form, Document, Given, DocRefusal, Cause, simples_over, modulus_cause, ServesCocycle, IsModulusCause, modulus_said, have_numbers, most_simples, form_of, document_in, table_of, exponents_of, given_in, conductor_of, field_for, lifted_by, blocks_of, class_ranks, first_of_all, scan_test, maker_test, input_test, without_conductor, conductor_test, simples_test, modulus_test, lifting_test, not_whole, whole_test, numbers_test, source_tests, lifted_tests, report_test, rows_test, group_test, cocycle_test, document_test, refusal, LateReport, LateRows, Late, HasInput, Refuses, LiftsRows, IsStatedCause, LiftedCauses, RowSource, Lifted, RowPart, RowReport, Input, Command}
use Rattle.group_make.specs.declared.refusal.MakeRefusal.TheVariants as makes
use Rattle.qd_doc.specs.declared.refusal.DocRefusal.TheVariants as stops
use Rattle.data_print.specs.declared.cause.Cause.TheVariants as causes
use Rattle.qd_engine.specs.declared.command.Input.TheVariants.{Read, Made, Sampled}
use Rattle.qd_engine.proofs.Documents.{document_cocycle}
use Rattle.qd_engine.proofs.LiftedRows.{field_serves}
use Rattle.qd_engine.proofs.Subjects.{input_given}
use Rattle.qd_engine.proofs.TestLaws.{map_none, conductor_found}

-- a test says nothing, or a cause that lifted rows may have
abbrev IsLiftedSaying : Option Cause → Type 0
IsLiftedSaying None = Unit {0}
IsLiftedSaying (Some cause) = IsStatedCause cause → ⊥

-- ---- one test, and one after another

says_mapped : {F : Type 0} (C : F → Cause) (o : Option F) → ((f : F) → IsStatedCause (C f) → ⊥) → IsLiftedSaying (option_map C o)
says_mapped C None apart = tt
says_mapped C (Some fault) apart = apart fault

says_unless : (b : Bool) (cause : Cause) → (IsStatedCause cause → ⊥) → IsLiftedSaying (cond b None (Some cause))
says_unless true cause apart = tt
says_unless false cause apart = apart

says_where : (b : Bool) (test : Option Cause) → IsLiftedSaying test → IsLiftedSaying (cond b test None)
says_where true test says = says
says_where false test says = tt

says_found : (test : Option Cause) → ((cause : Cause) → test ≡ Some cause → IsStatedCause cause → ⊥) → IsLiftedSaying test
says_found None apart = tt
says_found (Some cause) apart = apart cause refl

-- of a later test it is asked only where the earlier one says nothing
says_or : (test rest : Option Cause) → IsLiftedSaying test → (test ≡ None → IsLiftedSaying rest) → IsLiftedSaying (option_or test rest)
says_or None rest first later = later refl
says_or (Some cause) rest first later = first

-- ---- the test of an input

says_scan : (stop : Option DocRefusal) → IsLiftedSaying (scan_test stop)
says_scan None = tt
says_scan (Some (stops.Syntax offset expected)) = λ stated. stated
says_scan (Some (stops.Wide offset)) = λ stated. stated
says_scan (Some (stops.Section offset)) = λ stated. stated
says_scan (Some (stops.Order number)) = λ stated. stated
says_scan (Some (stops.Roots number)) = λ stated. stated
says_scan (Some stops.Memory) = tt

says_maker : (fault : Option MakeRefusal) → IsLiftedSaying (maker_test fault)
says_maker None = tt
says_maker (Some (makes.Size order)) = λ stated. stated
says_maker (Some (makes.Action power)) = λ stated. stated
says_maker (Some makes.Memory) = tt

says_input : (input : Input) (form : Form) (bytes : List ℕ) → IsLiftedSaying (input_test input form bytes)
says_input Read form bytes = says_scan (stop_of form bytes)
says_input (Made maker) form bytes = says_maker (maker_fault maker)
says_input (Sampled s) form bytes = tt

-- ---- the tests of lifted rows

says_conductor : (multiple : ℕ) (found : Option ℕ) → IsLiftedSaying (without_conductor multiple found)
says_conductor multiple None = λ stated. stated
says_conductor multiple (Some k) = tt

-- a cause of rows by a modulus is none of stated rows alone
modulus_apart : (cause : Cause) → IsModulusCause cause → IsStatedCause cause → ⊥
modulus_apart (causes.NoDegree at row s) is stated = stated
modulus_apart (causes.Multiplicity at row x sum degree) is stated = stated
modulus_apart (causes.Identity name at i j x left right) is stated = stated
modulus_apart (causes.NoTwist at row value) is stated = stated
modulus_apart (causes.NoVacuum rows) is stated = stated
modulus_apart cause is stated = absurd is

says_lifting : (w : Cochain) (field : Option ModRing) → ((ring : ModRing) → field ≡ Some ring → ServesCocycle ring w) → IsLiftedSaying (lifting_test w field)
says_lifting w None serves = tt
says_lifting w (Some ring) serves = says_found (modulus_cause ring w) (λ cause e. modulus_apart cause (modulus_said ring w (serves ring refl) cause e))

says_numbers : (k : ℕ) (s : SimplesOver) (parts : List RowPart) → IsLiftedSaying (numbers_test k s parts)
says_numbers k s parts = says_where (have_numbers parts) (whole_test k s) (says_mapped (not_whole k s) (whole_fault k s) (λ fault stated. stated))

module _ (w : Cochain) (cocycle : IsCocycle w) where
  says_lifted : (q : ℕ) (parts : List RowPart) → least_conductor (root_order w) ≡ Some (conductor_of w) → IsLiftedSaying (first_of_all (lifted_tests w q parts))
  says_lifted q parts conductor =
      let fault = modulus_fault q w.group.order (conductor_of w) in
      says_or (modulus_test q w) _ (says_mapped causes.Modulus fault (λ fault stated. stated))
      (λ valid.
      says_or (simples_test (sum (class_ranks w)) (most_simples parts)) _ (says_unless (nat_le (sum (class_ranks w)) (most_simples parts)) (causes.Simples _ _) (λ stated. stated))
      (λ few.
      says_or (lifting_test w (field_for q w)) _
      (says_lifting w (field_for q w) (λ ring field. field_serves q w ring cocycle conductor (map_none causes.Modulus fault valid) field))
      (λ passes. says_or (numbers_test _ _ parts) None (says_numbers (conductor_of w) (simples_over w (lifted_by w (field_for q w))) parts) (λ none. tt))))

  says_source : (source : RowSource) (q : ℕ) (given : Given) (parts : List RowPart) → source ≡ Lifted q → least_conductor (root_order w) ≡ Some (conductor_of w)
      → IsLiftedSaying (first_of_all (source_tests source w given parts))
  says_source source q given parts lifts conductor =
      subst (λ (r : RowSource). IsLiftedSaying (first_of_all (source_tests r w given parts))) (sym lifts) (says_lifted q parts conductor)

  says_report : (q : ℕ) (given : Given) (report : RowReport) → report.source ≡ Lifted q → IsLiftedSaying (report_test w given report)
  unfolding report_test conductor_test conductor_of
  says_report q given report lifts =
      says_or (conductor_test w) _ (says_conductor (root_order w) (least_conductor (root_order w)))
      (λ passes. says_source report.source q given report.parts lifts (conductor_found (root_order w) (least_conductor (root_order w)) passes))

-- ---- all tests, and what comes late

module _ (command : Command) (q : ℕ) (lifts : LiftsRows command q) where
  says_rows : (w : Cochain) (given : Given) → IsCocycle w → IsLiftedSaying (rows_test w given command.rows)
  says_rows w given cocycle =
      subst (λ (r : Option RowReport). IsLiftedSaying (rows_test w given r)) (sym lifts.reports) (says_report w cocycle q given lifts.report lifts.source)

  says_document : (bytes : List ℕ) → HasInput command.input (form_of command) bytes → IsLiftedSaying (document_test command (document_in command bytes))
  unfolding document_test
  says_document bytes document =
      let d = document_in command bytes in
      let w = exponents_of d in
      says_or (group_test d) _ (says_mapped causes.Group (group_fault (table_of d)) (λ fault stated. stated))
      (λ group.
      says_or (cocycle_test d) _ (says_mapped causes.Cocycle (cocycle_fault w) (λ fault stated. stated))
      (λ closed.
      let cocycle = document_cocycle command bytes document (map_none causes.Group _ group) (map_none causes.Cocycle _ closed) in
      says_or (rows_test w (given_in d) command.rows) None (says_rows w (given_in d) cocycle) (λ none. tt)))

  says_refusal : (bytes : List ℕ) → IsLiftedSaying (refusal command bytes)
  unfolding refusal
  says_refusal bytes =
      let form = form_of command in
      says_or (input_test command.input form bytes) _ (says_input command.input form bytes)
      (λ passes. says_or (document_test command (document_in command bytes)) None (says_document bytes (input_given command.input form bytes passes)) (λ none. tt))

  nothing_late : (document : Document) (cause : Cause) → Late command document cause → ⊥
  nothing_late document cause late =
      let w = exponents_of document in
      let given = given_in document in
      let here : LateRows w given (Some lifts.report) cause = subst (λ (r : Option RowReport). LateRows w given r cause) lifts.reports late in
      subst (λ (source : RowSource). LateReport source (conductor_of w) (simples_over w (blocks_of source w given)) lifts.report.parts cause) lifts.source here

  never_stated : (bytes : List ℕ) (cause : Cause) → Refuses cause command bytes → IsStatedCause cause → ⊥
  never_stated bytes cause (inl e) = subst IsLiftedSaying e (says_refusal bytes)
  never_stated bytes cause (inr (none, late)) = λ stated. nothing_late (document_in command bytes) cause late

pub lifted_causes : LiftedCauses
lifted_causes command q lifts bytes cause refuses = never_stated command q lifts bytes cause refuses
