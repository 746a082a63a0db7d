-- What the tests of an input say: nothing, or a cause of their own; and what holds where none says anything.
use Rattle.qd_engine.proofs.Names.{◌≡◌, ℕ, ◌<◌, ◌≤◌, Bool, true, false, cond, List, [], ◌∷◌, length, Option, Some, None, refl, sym, subst, ◌==◌, nat_le, sum, unwrap_or, option_map, option_and_then, eqb-true, leb-true, option_or, or_none, first_some, first_none-at, representatives, Cochain, IsCocycle, cocycle_fault, group_fault, least_conductor, modulus_fault, ModRing, root_order, TwistedSubgroup, SimplesOver, MakeRefusal, maker_fault, stop_of, Form, Block, Document, Given, DocRefusal, IsGood, Cause, cause_of_miss, table_cause, class_twist, class_table, tables_cause, simples_over, lifts_cause, lifted_blocks, modulus_cause, whole_fault, Characters, failure, cause_of_lift, lift_cause, have_numbers, most_simples, form_of, document_in, table_of, exponents_of, given_in, conductor_of, field_for, lifted_by, blocks_of, class_ranks, first_of_all, whole_test, not_whole, numbers_test, scan_test, maker_test, input_test, without_conductor, conductor_test, simples_test, lifting_test, source_tests, report_test, rows_test, document_test, refusal, LatePart, LateReport, LateRows, Late, AreGood, IsLifted, HasRows, HasNumbers, IsVerified, HasInput, IsAccepted, RowPart, RowSource, Stated, Lifted, RowReport, Input, Command}
use Rattle.group_make.specs.declared.refusal.MakeRefusal.TheVariants as makes
use Rattle.qd_doc.specs.declared.refusal.DocRefusal.TheVariants as stops
use Rattle.table_check.specs.Answers.{fit_at, site_of}
use Rattle.table_check.specs.Check.{table_miss}
use Rattle.table_check.proofs.Good.{nothing_missed}
use Rattle.table_check.specs.declared.miss.Clause.{Clause}
use Rattle.table_check.specs.declared.miss.Clause.TheVariants as clauses
use Rattle.table_check.specs.declared.miss.Miss.{Miss}
use Rattle.data_print.specs.declared.cause.Cause.TheVariants as causes
use Rattle.qd_steps.proofs.LiftedRows.{lifted_matched}
use Rattle.twist_lift.specs.TwistRows.{twist_fault}
use Rattle.char_lift.specs.declared.refusal.LiftRefusal.{LiftRefusal}
use Rattle.char_lift.specs.declared.refusal.LiftRefusal.TheVariants as lifts
use Rattle.qd_engine.specs.Shape.{shape_fault}
use Rattle.qd_engine.specs.declared.command.RowPart.TheVariants as row_parts
use Rattle.qd_engine.specs.declared.command.Input.TheVariants.{Read, Made, Sampled}
use Rattle.qd_engine.proofs.ConductorLaws.{least_is_conductor}
use Rattle.qd_engine.proofs.Documents.{document_group, document_cocycle}
use Rattle.qd_engine.proofs.LiftedRows.{valid_field, numbers_of_field}
use Rattle.qd_engine.proofs.Shapes.{shape_matches}

-- ---- no test of an input says what is said of words and of reading

abbrev pub IsOfInput : Cause → Type 0
IsOfInput causes.Usage = ⊥
IsOfInput causes.Read = ⊥
IsOfInput causes.TooLong = ⊥
IsOfInput cause = Unit {0}

abbrev IsSaid : Option Cause → Type 0
IsSaid None = Unit {0}
IsSaid (Some cause) = IsOfInput cause

said_map : {F : Type 0} (C : F → Cause) (o : Option F) → ((f : F) → IsOfInput (C f)) → IsSaid (option_map C o)
said_map C None is = tt
said_map C (Some fault) is = is fault

said_or : (test rest : Option Cause) → IsSaid test → IsSaid rest → IsSaid (option_or test rest)
said_or None rest first later = later
said_or (Some cause) rest first later = first

said_unless : (b : Bool) (cause : Cause) → IsOfInput cause → IsSaid (cond b None (Some cause))
said_unless true cause is = tt
said_unless false cause is = is

said_scan : (stop : Option DocRefusal) → IsSaid (scan_test stop)
said_scan None = tt
said_scan (Some stops.Memory) = tt
said_scan (Some stop) = tt

said_maker : (fault : Option MakeRefusal) → IsSaid (maker_test fault)
said_maker None = tt
said_maker (Some (makes.Size order)) = tt
said_maker (Some (makes.Action power)) = tt
said_maker (Some makes.Memory) = tt

said_input : (input : Input) (form : Form) (bytes : List ℕ) → IsSaid (input_test input form bytes)
said_input Read form bytes = said_scan (stop_of form bytes)
said_input (Made maker) form bytes = said_maker (maker_fault maker)
said_input (Sampled s) form bytes = tt

said_conductor : (multiple : ℕ) (found : Option ℕ) → IsSaid (without_conductor multiple found)
said_conductor multiple None = tt
said_conductor multiple (Some k) = tt

module _ {k : ℕ} (s : TwistedSubgroup) (table : Characters k) where
  failure_is : (clause : Clause) (miss : Miss) → IsOfInput (failure s table clause miss)
  failure_is clauses.Count miss = tt
  failure_is clause miss = tt

  said_miss : (miss : Miss) (fit : Bool) → IsOfInput (cond fit (failure s table miss.clause miss) (causes.Overflow (site_of s miss)))
  said_miss miss true = failure_is miss.clause miss
  said_miss miss false = tt

said_found : (o : Option Cause) → ((cause : Cause) → o ≡ Some cause → IsOfInput cause) → IsSaid o
said_found None is = tt
said_found (Some cause) is = is cause refl

said_tables : (w : Cochain) (k : ℕ) (blocks : List Block) → IsSaid (tables_cause w k blocks)
unfolding tables_cause
said_tables w k blocks =
    said_found _
    (λ cause e.
    let found = first_some _ (λ c. table_cause (class_twist w c) (class_table k blocks c)) cause e in
    let here = class_twist w found.place in
    let table = class_table k blocks found.place in
    subst IsSaid found.here (said_map (cause_of_miss here table) (table_miss here table) (λ miss. said_miss here table miss (fit_at here table miss))))

-- every test of a list says nothing, or a cause of its own
AreSaid : List (Option Cause) → Type 0
AreSaid [] = Unit {0}
AreSaid (test ∷ tests) = IsSaid test × AreSaid tests

said_all : (tests : List (Option Cause)) → AreSaid tests → IsSaid (first_of_all tests)
unfolding AreSaid
said_all [] said = tt
said_all (test ∷ tests) (here, later) = said_or test (first_of_all tests) here (said_all tests later)

said_few : (ranks most : ℕ) → IsSaid (simples_test ranks most)
said_few ranks most = said_unless (nat_le ranks most) (causes.Simples ranks most) tt

said_lift : (at : ℕ) (fault : Option LiftRefusal) → IsSaid (option_and_then (cause_of_lift at) fault)
said_lift at None = tt
said_lift at (Some lifts.Memory) = tt
said_lift at (Some refusal) = tt

said_lifts : (ring : ModRing) (w : Cochain) → IsSaid (lifts_cause ring w)
unfolding lifts_cause
said_lifts ring w =
    said_found _
    (λ cause e.
    let found = first_some _ (lift_cause ring w) cause e in
    subst IsSaid found.here (said_lift _ (twist_fault ring (class_twist w found.place))))

said_lifting : (w : Cochain) (field : Option ModRing) → IsSaid (lifting_test w field)
unfolding modulus_cause
said_lifting w None = tt
said_lifting w (Some ring) =
    said_or (lifts_cause ring w) (tables_cause w ring.conductor (lifted_blocks ring w)) (said_lifts ring w) (said_tables w ring.conductor (lifted_blocks ring w))

said_if : (b : Bool) (test : Option Cause) → IsSaid test → IsSaid (cond b test None)
said_if true test is = is
said_if false test is = tt

said_numbers : (k : ℕ) (s : SimplesOver) (parts : List RowPart) → IsSaid (numbers_test k s parts)
said_numbers k s parts = said_if (have_numbers parts) (whole_test k s) (said_map (not_whole k s) (whole_fault k s) (λ fault. tt))

said_source : (source : RowSource) (w : Cochain) (given : Given) (parts : List RowPart) → AreSaid (source_tests source w given parts)
unfolding AreSaid
said_source Stated w given parts = (
  said_unless (given.conductor == conductor_of w) (causes.Conductor given.conductor (conductor_of w)) tt,
  (
    said_few _ (most_simples parts),
    (
      said_map causes.Shape (shape_fault w.group given.blocks) (λ fault. tt),
      (
        said_tables w (conductor_of w) given.blocks,
        tt,
      ),
    ),
  ),
)
said_source (Lifted q) w given parts = (
  said_map causes.Modulus (modulus_fault q w.group.order (conductor_of w)) (λ fault. tt),
  (
    said_few _ (most_simples parts),
    (
      said_lifting w (field_for q w),
      (
        said_numbers (conductor_of w) (simples_over w (lifted_by w (field_for q w))) parts,
        tt,
      ),
    ),
  ),
)

said_rows : (w : Cochain) (given : Given) (report : Option RowReport) → IsSaid (rows_test w given report)
unfolding report_test conductor_test AreSaid
said_rows w given None = tt
said_rows w given (Some report) =
    said_all (conductor_test w ∷ source_tests report.source w given report.parts)
    (said_conductor (root_order w) (least_conductor (root_order w)), said_source report.source w given report.parts)

said_document : (command : Command) (document : Document) → IsSaid (document_test command document)
unfolding document_test AreSaid
said_document command document =
    let w = exponents_of document in
    let group = group_fault (table_of document) in
    let cocycle = cocycle_fault w in
    said_all (option_map causes.Group group ∷ option_map causes.Cocycle cocycle ∷ rows_test w (given_in document) command.rows ∷ [])
    (said_map causes.Group group (λ fault. tt), (said_map causes.Cocycle cocycle (λ fault. tt), (said_rows w (given_in document) command.rows, tt)))

said_refusal : (command : Command) (bytes : List ℕ) → IsSaid (refusal command bytes)
unfolding refusal
said_refusal command bytes =
    let document = document_test command (document_in command bytes) in
    said_or (input_test command.input (form_of command) bytes) (option_or document None) (said_input command.input (form_of command) bytes) (said_or document None (said_document command (document_in command bytes)) tt)

pub refusal_is : (command : Command) (bytes : List ℕ) (cause : Cause) → refusal command bytes ≡ Some cause → IsOfInput cause
refusal_is command bytes cause e = subst IsSaid e (said_refusal command bytes)

-- nor what comes late
part_late_is : (k : ℕ) (s : SimplesOver) (part : RowPart) (cause : Cause) → LatePart k s part cause → IsOfInput cause
part_late_is k s row_parts.S cause (site, is, over) = subst IsOfInput (sym is) tt
part_late_is k s part cause late = absurd late

report_late_is : (source : RowSource) (k : ℕ) (s : SimplesOver) (parts : List RowPart) (cause : Cause) → LateReport source k s parts cause → IsOfInput cause
report_late_is Stated k s parts cause (i, part, at, late) = part_late_is k s part cause late
report_late_is (Lifted q) k s parts cause late = absurd late

rows_late_is : (w : Cochain) (given : Given) (report : Option RowReport) (cause : Cause) → LateRows w given report cause → IsOfInput cause
rows_late_is w given None cause late = absurd late
rows_late_is w given (Some report) cause late = report_late_is report.source _ _ report.parts cause late

pub late_is : (command : Command) (document : Document) (cause : Cause) → Late command document cause → IsOfInput cause
late_is command document cause late = rows_late_is _ (given_in document) command.rows cause late

-- ---- where no test says anything

pub map_none : {F : Type 0} (C : F → Cause) (o : Option F) → option_map C o ≡ None → o ≡ None
map_none C None e = refl
map_none C (Some fault) e = absurd cc

unless_none : (b : Bool) (cause : Cause) → cond b None (Some cause) ≡ None → b ≡ true
unless_none true cause e = refl
unless_none false cause e = absurd cc

pub conductor_found : (multiple : ℕ) (found : Option ℕ) → without_conductor multiple found ≡ None → found ≡ Some (unwrap_or found 0)
conductor_found multiple None e = absurd cc
conductor_found multiple (Some k) e = refl

-- the table of each class is good
tables_good : (w : Cochain) (k : ℕ) (blocks : List Block) → tables_cause w k blocks ≡ None → (c : ℕ) → c < length (representatives w.group) → IsGood (class_twist w c) (class_table k blocks c)
unfolding tables_cause
tables_good w k blocks none c below =
    let passed = first_none-at _ c (λ c. table_cause (class_twist w c) (class_table k blocks c)) none below in
    nothing_missed (class_twist w c) (class_table k blocks c) (map_none (cause_of_miss (class_twist w c) (class_table k blocks c)) _ passed)

-- the tables of lifted rows are good, where the modulus is valid
lifted_verified : (q : ℕ) (w : Cochain) → IsCocycle w → least_conductor (root_order w) ≡ Some (conductor_of w) → modulus_fault q w.group.order (conductor_of w) ≡ None
    → lifting_test w (field_for q w) ≡ None → IsLifted q w × AreGood w (conductor_of w) (lifted_by w (field_for q w))
unfolding modulus_cause
lifted_verified q w cocycle conductor valid none =
    let k = conductor_of w in
    let (ring, field) = (valid_field q k w.group.order (least_is_conductor _ _ conductor).0 valid).1 in
    let (lifted, tables) = or_none _ _ (subst (λ (f : Option ModRing). lifting_test w f ≡ None) field none) in
    let blocks = lifted_blocks ring w in
    let good : AreGood w k blocks =
    record {
      matched = lifted_matched ring w;
      good = tables_good w k blocks (subst (λ n. tables_cause w n blocks ≡ None) (numbers_of_field q k ring field).1 tables);
    } in
    (record { valid = valid; ring = ring; field = field; lifted = lifted }, subst (λ (f : Option ModRing). AreGood w k (lifted_by w f)) (sym field) good)

-- the fusion numbers that are asked for are there
numbers_there : (k : ℕ) (s : SimplesOver) (parts : List RowPart) → numbers_test k s parts ≡ None → have_numbers parts ≡ true → whole_fault k s ≡ None
numbers_there k s parts none asked = map_none (not_whole k s) (whole_fault k s) (subst (λ b. cond b (whole_test k s) None ≡ None) asked none)

source_verified : (source : RowSource) (w : Cochain) (given : Given) (parts : List RowPart) → IsCocycle w → least_conductor (root_order w) ≡ Some (conductor_of w)
    → first_of_all (source_tests source w given parts) ≡ None
    → HasRows source w given × (sum (class_ranks w) ≤ most_simples parts) × AreGood w (conductor_of w) (blocks_of source w given)
    × HasNumbers source (conductor_of w) (simples_over w (blocks_of source w given)) parts
source_verified Stated w given parts cocycle conductor none =
    let (stated, after_stated) = or_none _ _ none in
    let (few, after_few) = or_none _ _ after_stated in
    let (shape, after_shape) = or_none _ _ after_few in (
      eqb-true _ _ (unless_none _ _ stated),
      leb-true _ _ (unless_none _ _ few),
      record { matched = shape_matches _ _ (map_none causes.Shape _ shape); good = tables_good w _ given.blocks (or_none _ _ after_shape).0 },
      tt,
    )
source_verified (Lifted q) w given parts cocycle conductor none =
    let (modulus, after_modulus) = or_none _ _ none in
    let (few, after_few) = or_none _ _ after_modulus in
    let (lifting, after_lifting) = or_none _ _ after_few in
    let (lifted, good) = lifted_verified q w cocycle conductor (map_none causes.Modulus _ modulus) lifting in
    (lifted, leb-true _ _ (unless_none _ _ few), good, numbers_there _ _ parts (or_none _ _ after_lifting).0)

rows_verified : (w : Cochain) (given : Given) (report : RowReport) → IsCocycle w → report_test w given report ≡ None → IsVerified w given report
unfolding report_test conductor_test conductor_of
rows_verified w given report cocycle none =
    let (conductor, after_conductor) = or_none _ _ none in
    let found = conductor_found _ _ conductor in
    let (source, few, rows, numbers) = source_verified report.source w given report.parts cocycle found after_conductor in
    record { conductor = found; source = source; few = few; rows = rows; numbers = numbers }

pub input_accepted : (command : Command) (bytes : List ℕ) → HasInput command.input (form_of command) bytes → refusal command bytes ≡ None → IsAccepted command bytes
unfolding refusal document_test
input_accepted command bytes document none =
    let d = document_in command bytes in
    let passes = (or_none _ _ (or_none (input_test command.input (form_of command) bytes) _ none).1).0 in
    let (group_passes, after_group) = or_none (option_map causes.Group (group_fault (table_of d))) _ passes in
    let (cocycle_passes, after_cocycle) = or_none (option_map causes.Cocycle (cocycle_fault (exponents_of d))) _ after_group in
    let rows_pass = (or_none (rows_test (exponents_of d) (given_in d) command.rows) _ after_cocycle).0 in
    let group = map_none causes.Group _ group_passes in
    let cocycle = document_cocycle command bytes document group (map_none causes.Cocycle _ cocycle_passes) in
    record {
      document = document;
      group = document_group command bytes document group;
      cocycle = cocycle;
      verified = λ report is.
          rows_verified (exponents_of d) (given_in d) report cocycle
          (subst (λ (r : Option RowReport). rows_test (exponents_of d) (given_in d) r ≡ None) is rows_pass);
    }
