-- What the last step of a chain answers.
use Rattle.qd_engine.proofs.Names.{◌≡◌, ℕ, List, Option, Some, None, Result, Ok, Err, refl, sym, ap, subst, ◌∙◌, inl, inr, OnOk, IfErr, slice_get, option_map, Vec, option_or, group_fault, Cochain, cocycle_fault, IsCocycle, Maker, made_cocycle, maker_fault, made_is_cocycle, sample_is_cocycle, SimplesOver, tokens, document_of, stop_of, Document, Cause, form_of, bare_document, document_for, document_in, table_of, exponents_of, given_or_none, given_in, cocycle_report, report_of, scan_test, maker_test, input_test, group_test, cocycle_test, rows_test, document_test, refusal, LatePart, LateIn, LateRows, Late, HasInput, Tests, Follows, StopsLate, Reports, RowPart, Input, Command, Stop}
use Rattle.named_cocycles.specs.Samples.{sample_cocycle}
use Rattle.data_print.specs.declared.cause.Cause.TheVariants as causes
use Rattle.qd_engine.specs.declared.command.Input.TheVariants.{Read, Made, Sampled}
use Rattle.qd_engine.specs.declared.stop.Stop.TheVariants as stops
use Rattle.qd_engine.proofs.Subjects.{bare_exponents, input_passes}

or_nothing : (test : Option Cause) → test ≡ option_or test None
or_nothing None = refl
or_nothing (Some cause) = refl

module _ {X : Type 0} (late : Cause → Type 0) (gives : X → Type 0) (result : Result X Stop) where
  -- what follows a list of tests, where the first says nothing
  pub follow_next : (test rest : Option Cause) → test ≡ None → Follows rest late gives result → Follows (option_or test rest) late gives result
  follow_next test rest none follows = subst (λ (t : Option Cause). Follows (option_or t rest) late gives result) (sym none) follows

-- a step past which something may come late
pub follow_late : (test : Option Cause) (late : Cause → Type 0) (P : Type 0) (result : Result (Unit {0}) Stop) → test ≡ None → OnOk result P → IfErr result (StopsLate late)
    → Follows test late (λ done. P) result
follow_late test late P (Ok done) none added refused = (none, added)
follow_late test late P (Err (stops.Refused cause)) none added refused = inr (none, refused)
follow_late test late P (Err stops.Memory) none added refused = tt

-- what comes late of a part comes late of the parts
pub part_stops : (k : ℕ) (s : SimplesOver) (parts : List RowPart) (i : ℕ) (part : RowPart) (stop : Stop) → slice_get parts i ≡ Some part → StopsLate (LatePart k s part) stop
    → StopsLate (LateIn k s parts) stop
part_stops k s parts i part (stops.Refused cause) at late = (i, part, at, late)
part_stops k s parts i part stops.Memory at late = tt

map_none : {F : Type 0} (C : F → Cause) (o : Option F) → o ≡ None → option_map C o ≡ None
map_none C o none = ap (option_map C) none

-- past the tests of a group and of a cocycle, for the cocycle of a document
pub document_after : (command : Command) (d : Document) (w : Cochain) (result : Result (Vec ℕ) Stop) → group_test d ≡ None → cocycle_test d ≡ None → w ≡ exponents_of d
    → Follows (rows_test w (given_in d) command.rows) (LateRows w (given_in d) command.rows) (λ (text : Vec ℕ). text.items ≡ cocycle_report command w (given_in d)) result
    → Follows (document_test command d) (Late command d) (λ (text : Vec ℕ). text.items ≡ report_of command d) result
unfolding document_test
document_after command d w result group cocycle is follows =
    let v = exponents_of d in
    let given = given_in d in
    let late = LateRows v given command.rows in
    let gives : Vec ℕ → Type 0 = λ (text : Vec ℕ). text.items ≡ cocycle_report command v given in
    let of_rows : Follows (rows_test v given command.rows) late gives result =
    subst (λ (v : Cochain). Follows (rows_test v given command.rows) (LateRows v given command.rows) (λ (text : Vec ℕ). text.items ≡ cocycle_report command v given) result) is follows in
    follow_next late gives result (group_test d) _ group
    (follow_next late gives result (cocycle_test d) _ cocycle
    (subst (λ (t : Option Cause). Follows t late gives result) (or_nothing (rows_test v given command.rows)) of_rows))

-- a cocycle as the one of its document passes these tests
bare_follows : (command : Command) (w : Cochain) (result : Result (Vec ℕ) Stop) → IsCocycle w
    → Follows (rows_test w (given_or_none None) command.rows) (LateRows w (given_or_none None) command.rows)
    (λ (text : Vec ℕ). text.items ≡ cocycle_report command w (given_or_none None)) result
    → Follows (document_test command (bare_document w)) (Late command (bare_document w)) (λ (text : Vec ℕ). text.items ≡ report_of command (bare_document w)) result
bare_follows command w result cocycle follows =
    let d = bare_document w in
    let same : exponents_of d ≡ w = bare_exponents w cocycle in
    let lawful : IsCocycle (exponents_of d) = subst IsCocycle (sym same) cocycle in
    document_after command d w result (map_none causes.Group (group_fault (table_of d)) cocycle.cochain.group.lawful) (map_none causes.Cocycle (cocycle_fault (exponents_of d)) lawful.lawful)
    (sym same) follows

module _ (command : Command) (bytes : List ℕ) where
  -- an input that its test refuses
  pub input_refused : {X Y : Type 0} (gives : X → Type 0) (late : Cause → Type 0) (other : Y → Type 0) (test : Option Cause) (stop : Stop)
      → input_test command.input (form_of command) bytes ≡ test → Tests test gives (Err stop) → Follows (refusal command bytes) late other (Err stop)
  unfolding refusal
  input_refused gives late other test (stops.Refused cause) is says = inl (rw (is, says) refl)
  input_refused gives late other test stops.Memory is says = tt

  module _ (has : HasInput command.input (form_of command) bytes) where
    refusal_of_document : refusal command bytes ≡ document_test command (document_in command bytes)
    unfolding refusal
    refusal_of_document =
        let passes = input_passes command.input (form_of command) bytes has in
        rw passes (sym (or_nothing (document_test command (document_in command bytes))))

    input_follows : (result : Result (Vec ℕ) Stop)
        → Follows (document_test command (document_in command bytes)) (Late command (document_in command bytes)) (λ (text : Vec ℕ). text.items ≡ report_of command (document_in command bytes)) result
        → Follows (refusal command bytes) (Late command (document_in command bytes)) (λ (text : Vec ℕ). Reports text.items command bytes) result
    input_follows (Ok text) (none, is) = let passes = refusal_of_document ∙ none in (passes, record { document = has; passes = passes; text_is = is })
    input_follows (Err (stops.Refused cause)) (inl e) = inl (refusal_of_document ∙ e)
    input_follows (Err (stops.Refused cause)) (inr (none, late)) = inr (refusal_of_document ∙ none, late)
    input_follows (Err stops.Memory) follows = tt

    -- from the document to the input
    pub document_follows : (d : Document) (result : Result (Vec ℕ) Stop) → d ≡ document_in command bytes
        → Follows (document_test command d) (Late command d) (λ (text : Vec ℕ). text.items ≡ report_of command d) result
        → Follows (refusal command bytes) (Late command (document_in command bytes)) (λ (text : Vec ℕ). Reports text.items command bytes) result
    document_follows d result is follows =
        input_follows result (subst (λ (d : Document). Follows (document_test command d) (Late command d) (λ (text : Vec ℕ). text.items ≡ report_of command d) result) is follows)

    -- from a cocycle that is made
    pub cocycle_follows : (w : Cochain) (result : Result (Vec ℕ) Stop) → IsCocycle w → bare_document w ≡ document_in command bytes
        → Follows (rows_test w (given_or_none None) command.rows) (LateRows w (given_or_none None) command.rows)
        (λ (text : Vec ℕ). text.items ≡ cocycle_report command w (given_or_none None)) result
        → Follows (refusal command bytes) (Late command (document_in command bytes)) (λ (text : Vec ℕ). Reports text.items command bytes) result
    cocycle_follows w result cocycle is follows = document_follows (bare_document w) result is (bare_follows command w result cocycle follows)

-- what is read, where the command reads
module _ (command : Command) (bytes : List ℕ) (reads : command.input ≡ Read) where
  pub read_has : stop_of (form_of command) bytes ≡ None → HasInput command.input (form_of command) bytes
  read_has none = subst (λ (input : Input). HasInput input (form_of command) bytes) (sym reads) none

  pub read_document : document_of (form_of command) (tokens bytes) ≡ document_in command bytes
  read_document = ap (λ (input : Input). document_for input (form_of command) bytes) (sym reads)

  pub read_test : input_test command.input (form_of command) bytes ≡ scan_test (stop_of (form_of command) bytes)
  read_test = ap (λ (input : Input). input_test input (form_of command) bytes) reads

-- what is made, where the command makes it
module _ (command : Command) (bytes : List ℕ) (maker : Maker) (makes : command.input ≡ Made maker) where
  made_has : maker_fault maker ≡ None → HasInput command.input (form_of command) bytes
  made_has none = subst (λ (input : Input). HasInput input (form_of command) bytes) (sym makes) none

  made_document : bare_document (made_cocycle maker) ≡ document_in command bytes
  made_document = ap (λ (input : Input). document_for input (form_of command) bytes) (sym makes)

  pub made_test : input_test command.input (form_of command) bytes ≡ maker_test (maker_fault maker)
  made_test = ap (λ (input : Input). input_test input (form_of command) bytes) makes

  pub made_follows : (w : Cochain) (result : Result (Vec ℕ) Stop) → maker_fault maker ≡ None → w ≡ made_cocycle maker
      → Follows (rows_test w (given_or_none None) command.rows) (LateRows w (given_or_none None) command.rows)
      (λ (text : Vec ℕ). text.items ≡ cocycle_report command w (given_or_none None)) result
      → Follows (refusal command bytes) (Late command (document_in command bytes)) (λ (text : Vec ℕ). Reports text.items command bytes) result
  made_follows w result none is follows =
      cocycle_follows command bytes (made_has none) w result (subst IsCocycle (sym is) (made_is_cocycle maker none)) (ap bare_document is ∙ made_document) follows

-- a sample, where the command is about one
module _ (command : Command) (bytes : List ℕ) (number : ℕ) (samples : command.input ≡ Sampled number) where
  pub sample_follows : (w : Cochain) (result : Result (Vec ℕ) Stop) → w ≡ sample_cocycle number
      → Follows (rows_test w (given_or_none None) command.rows) (LateRows w (given_or_none None) command.rows)
      (λ (text : Vec ℕ). text.items ≡ cocycle_report command w (given_or_none None)) result
      → Follows (refusal command bytes) (Late command (document_in command bytes)) (λ (text : Vec ℕ). Reports text.items command bytes) result
  sample_follows w result is follows =
      cocycle_follows command bytes (subst (λ (input : Input). HasInput input (form_of command) bytes) (sym samples) tt) w result (subst IsCocycle (sym is) (sample_is_cocycle number))
      (ap bare_document is ∙ ap (λ (input : Input). document_for input (form_of command) bytes) (sym samples)) follows
