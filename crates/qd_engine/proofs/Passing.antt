-- No test says anything of an acceptable input, and what its rows give.
use Rattle.qd_engine.proofs.Names.{◌≡◌, ℕ, ◌≤◌, Bool, true, false, cond, List, length, Option, Some, None, refl, sym, ap, subst, sum, option_map, eq-eqb, le-leb, option_or, first_none, representatives, representative_at, representative_at_is, is_conductor, least_conductor, ModRing, root_order, lifted_blocks, modulus_cause, Cochain, IsCocycle, twist_of, twist_lawful, Block, Given, Cause, class_twist, class_table, table_cause, tables_cause, cause_of_miss, simples_over, document_in, exponents_of, given_in, conductor_of, field_for, lifted_by, blocks_of, class_ranks, first_of_all, not_whole, without_conductor, conductor_test, lifting_test, stated_tests, lifted_tests, source_tests, report_test, rows_test, document_test, refusal, AreGood, IsLifted, HasRows, HasNumbers, IsVerified, OfRows, IsAccepted, GiveIdempotents, have_numbers, most_simples, form_of, AllFit, SourceFits, RowSource, Stated, Lifted, RowPart, RowReport, Command}
use Rattle.table_check.proofs.Fitting.{good_misses_nothing}
use Rattle.table_check.proofs.Idempotents.{good_tables_give_idempotents}
use Rattle.data_print.specs.declared.cause.Cause.TheVariants as causes
use Rattle.qd_engine.proofs.ConductorLaws.{least_is_conductor, multiple_of_factor}
use Rattle.qd_engine.proofs.LiftedRows.{numbers_of_field, field_serves, lifted_fit}
use Rattle.qd_engine.proofs.Shapes.{matched_no_fault}
use Rattle.qd_engine.proofs.Subjects.{input_passes}

or_made : (test rest : Option Cause) → test ≡ None → rest ≡ None → option_or test rest ≡ None
or_made test rest first later = rw (first, later) refl

map_made : {F : Type 0} (C : F → Cause) (o : Option F) → o ≡ None → option_map C o ≡ None
map_made C o none = ap (option_map C) none

-- nor a test that isn't made
numbers_pass : (b : Bool) (test : Option Cause) → (b ≡ true → test ≡ None) → cond b test None ≡ None
numbers_pass true test passes = passes refl
numbers_pass false test passes = refl

-- where the tables are good and their sides fit, none is refused
tables_pass : (w : Cochain) (k : ℕ) (blocks : List Block) → AreGood w k blocks → AllFit w k blocks → tables_cause w k blocks ≡ None
unfolding tables_cause
tables_pass w k blocks good fits =
    first_none (length (representatives w.group)) (λ c. table_cause (class_twist w c) (class_table k blocks c))
    (λ c below. map_made (cause_of_miss (class_twist w c) (class_table k blocks c)) _ (good_misses_nothing (class_twist w c) (class_table k blocks c) (good.good c below) (fits c below)))

module _ (w : Cochain) where
  conductor_passes : (k : ℕ) (found : Option ℕ) → found ≡ Some k → without_conductor (root_order w) found ≡ None
  conductor_passes k found is = rw is refl

  stated_pass : (given : Given) (parts : List RowPart) → given.conductor ≡ conductor_of w → sum (class_ranks w) ≤ most_simples parts → AreGood w (conductor_of w) given.blocks → AllFit w (conductor_of w) given.blocks
      → first_of_all (stated_tests w given parts) ≡ None
  stated_pass given parts stated few good fits =
      or_made _ _ (rw (eq-eqb _ _ stated) refl)
      (or_made _ _ (rw (le-leb _ _ few) refl)
      (or_made _ _ (map_made causes.Shape _ (matched_no_fault w.group given.blocks good.matched))
      (or_made _ _ (tables_pass w (conductor_of w) given.blocks good fits) refl)))

  -- nothing overflows in the tables of lifted rows
  lifted_pass : (q : ℕ) (parts : List RowPart) → IsCocycle w → least_conductor (root_order w) ≡ Some (conductor_of w) → IsLifted q w → sum (class_ranks w) ≤ most_simples parts
      → AreGood w (conductor_of w) (lifted_by w (field_for q w)) → HasNumbers (Lifted q) (conductor_of w) (simples_over w (lifted_by w (field_for q w))) parts
      → first_of_all (lifted_tests w q parts) ≡ None
  unfolding modulus_cause
  lifted_pass q parts cocycle conductor lifted few good numbers =
      let k = conductor_of w in
      let ring = lifted.ring in
      let blocks = lifted_blocks ring w in
      let (is_q, is_k) = numbers_of_field q k ring lifted.field in
      let serves = field_serves q w ring cocycle conductor lifted.valid lifted.field in
      let is_entry : is_conductor ring.conductor ≡ true = subst (λ n. is_conductor n ≡ true) (sym is_k) (least_is_conductor _ _ conductor).0 in
      let rows : AreGood w ring.conductor blocks =
      subst (λ n. AreGood w n blocks) (sym is_k) (subst (λ (f : Option ModRing). AreGood w k (lifted_by w f)) lifted.field good) in
      let tables = tables_pass w ring.conductor blocks rows (lifted_fit ring w is_entry serves lifted.lifted) in
      let passes : modulus_cause ring w ≡ None = or_made _ _ lifted.lifted tables in
      or_made _ _ (map_made causes.Modulus _ lifted.valid)
      (or_made _ _ (rw (le-leb _ _ few) refl)
      (or_made _ _ (subst (λ (f : Option ModRing). lifting_test w f ≡ None) (sym lifted.field) passes)
      (or_made _ _ (numbers_pass (have_numbers parts) _ (λ asked. map_made (not_whole k (simples_over w (lifted_by w (field_for q w)))) _ (numbers asked))) refl)))

  source_pass : (source : RowSource) (given : Given) (parts : List RowPart) → IsCocycle w → least_conductor (root_order w) ≡ Some (conductor_of w) → HasRows source w given → sum (class_ranks w) ≤ most_simples parts
      → AreGood w (conductor_of w) (blocks_of source w given) → HasNumbers source (conductor_of w) (simples_over w (blocks_of source w given)) parts → (source ≡ Stated → AllFit w (conductor_of w) given.blocks) → first_of_all (source_tests source w given parts) ≡ None
  source_pass Stated given parts cocycle conductor stated few good numbers fits = stated_pass given parts stated few good (fits refl)
  source_pass (Lifted q) given parts cocycle conductor lifted few good numbers fits = lifted_pass q parts cocycle conductor lifted few good numbers

  rows_pass : (given : Given) (report : RowReport) → IsCocycle w → IsVerified w given report → SourceFits w given report → report_test w given report ≡ None
  unfolding report_test conductor_test
  rows_pass given report cocycle verified fits =
      or_made _ _ (conductor_passes (conductor_of w) _ verified.conductor)
      (source_pass report.source given report.parts cocycle verified.conductor verified.source verified.few verified.rows verified.numbers fits)

  -- whether the command has rows or not
  rows_pass_for : (given : Given) (rows : Option RowReport) → IsCocycle w → ((report : RowReport) → rows ≡ Some report → IsVerified w given report × SourceFits w given report)
      → rows_test w given rows ≡ None
  rows_pass_for given None cocycle has = refl
  rows_pass_for given (Some report) cocycle has = let (verified, fits) = has report refl in rows_pass given report cocycle verified fits

  -- the rows give the idempotents
  pub rows_give : (given : Given) (report : RowReport) → IsCocycle w → IsVerified w given report → GiveIdempotents w (conductor_of w) (blocks_of report.source w given)
  unfolding twist_of
  rows_give given report cocycle verified =
      let k = conductor_of w in
      let found = least_is_conductor (root_order w) k verified.conductor in
      record {
        conductor = found.0;
        idempotents = λ c below.
            good_tables_give_idempotents k found.0 (class_twist w c)
            (twist_lawful w cocycle (representative_at w.group c) (representative_at_is w.group cocycle.cochain.group c below).below)
            (multiple_of_factor k w.roots _ found.1) (class_table k (blocks_of report.source w given) c) (verified.rows.good c below);
      }

pub accepted_passes : (command : Command) (bytes : List ℕ) → IsAccepted command bytes → OfRows command (document_in command bytes) SourceFits → refusal command bytes ≡ None
unfolding refusal document_test
accepted_passes command bytes accepted fits =
    let d = document_in command bytes in
    or_made _ _ (input_passes command.input (form_of command) bytes accepted.document)
    (or_made _ _
    (or_made _ _ (map_made causes.Group _ accepted.group.lawful)
    (or_made _ _ (map_made causes.Cocycle _ accepted.cocycle.lawful)
    (or_made _ _ (rows_pass_for (exponents_of d) (given_in d) command.rows accepted.cocycle (λ report is. (accepted.verified report is, fits report is))) refl)))
    refl)
