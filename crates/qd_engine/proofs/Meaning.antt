-- What the program's answer means, from what it had to say and how it ended.
use Rattle.qd_engine.proofs.Names.{◌≡◌, ℕ, ◌<◌, ◌≤◌, List, length, Option, Some, None, Result, Ok, Err, refl, sym, ap, subst, ◌∙◌, ◌⊎◌, inl, inr, IsSome, lt-ltb, INPUT_LIMIT, memory_line, Cause, Usage, Read, TooLong, Appends, le-ltb, HasRoom, command_of, read_of, document_in, exponents_of, report_in, refusal, report_unless, answer_for, plan, LateFor, ComesLate, Said, Whole, Cut, refused, said_by, Agrees, OfCommand, Refuses, Means, MeansSo, GivesReport, Comes, IsDone, IsAcceptable, Reports, Says, Writing, Ends, EndsSaying, IsRoomy, Decides, Command, Why, Outcome, Report, Refused, Memory}
use Rattle.qd_engine.specs.declared.answer.Why.TheVariants as whys
use Rattle.qd_engine.proofs.TestLaws.{input_accepted}
use Rattle.qd_engine.proofs.Passing.{rows_give, accepted_passes}
use Rattle.qd_engine.proofs.HeadlineLaws.{report_is_modular, report_has_rule}

-- what is reported on is accepted, and has the headline
report_given : {text : List ℕ} (command : Command) (bytes : List ℕ) → Reports text command bytes → GivesReport command bytes
report_given command bytes reports =
    let accepted = input_accepted command bytes reports.document reports.passes in
    record {
      accepted = accepted;
      headline = λ report is. record {
        idempotents = rows_give (exponents_of (document_in command bytes)) _ report accepted.cocycle (accepted.verified report is);
        modular = report_is_modular (exponents_of (document_in command bytes)) _ report accepted.cocycle (accepted.verified report is);
        fusion = report_has_rule (exponents_of (document_in command bytes)) _ report accepted.cocycle (accepted.verified report is);
      };
    }

module _ (words : List (List ℕ)) (left : Option (List ℕ)) (failed : Type 0) where
  -- ---- what it had to say means

  outcome_means : (outcome : Outcome) (text : List ℕ) → Says words left failed outcome text → MeansSo words left failed outcome
  outcome_means Report text (command, asks, (bytes, agrees, (short, reports))) = (command, asks, (bytes, agrees, (short, report_given command bytes reports)))
  outcome_means (Refused refusal) text h = h.0
  outcome_means Memory text h = tt

  pub answer_comes : (writing : Writing) (sink_failed : Type 0) (said : Said) → EndsSaying words left failed writing sink_failed said → Comes words left failed said
  answer_comes writing sink_failed said e = by e.ends
    where
      by : Ends writing sink_failed said e.outcome e.text → Comes words left failed said
      by (inl whole) = subst (Comes words left failed) (sym whole.is) (outcome_means e.outcome e.text e.says)
      by (inr cut) = subst (Comes words left failed) (sym cut.is) (e.outcome, refl, outcome_means e.outcome e.text e.says)

  -- ---- Done

  report_done : (writing : Writing) (text : List ℕ) → OfCommand words left (Reports text) → Appends writing.before writing.after text
      → IsDone words left writing.before writing.after
  report_done writing text (command, asks, (bytes, agrees, (short, reports))) added =
      record {
        command = command;
        asked = asks;
        bytes = bytes;
        input = agrees;
        short = short;
        gives = report_given command bytes reports;
        report = subst (Appends writing.before writing.after) reports.text_is added;
      }

  pub done_means : (writing : Writing) (sink_failed : Type 0) (why : Why) → EndsSaying words left failed writing sink_failed (said_by why) → why ≡ whys.Done
      → IsDone words left writing.before writing.after
  done_means writing sink_failed why e done = by e.ends
    where
      by : Ends writing sink_failed (said_by why) e.outcome e.text → IsDone words left writing.before writing.after
      by (inl whole) =
          let same : Whole Report ≡ Whole e.outcome = sym (ap said_by done) ∙ whole.is in
          let report : e.outcome ≡ Report = cc in
          report_done writing e.text (subst (λ (o : Outcome). Says words left failed o e.text) report e.says) whole.added
      by (inr cut) = absurd (let wrong : Whole Report ≡ Cut _ = sym (ap said_by done) ∙ cut.is in cc)

-- ---- what the plan gives

-- the plan refuses so, or gives a report and this comes late
RefusedSo : List (List ℕ) → List ℕ → Cause → Type 0
RefusedSo words bytes cause = (plan words bytes ≡ Err cause) ⊎ ((report : List ℕ) × (plan words bytes ≡ Ok report) × ComesLate words bytes cause)

agreed : (read : Option (List ℕ)) (bytes input : List ℕ) → read ≡ Some bytes → Agrees read input → input ≡ bytes
agreed None bytes input told agrees = absurd cc
agreed (Some left) bytes input told agrees = let same : left ≡ bytes = cc in agrees ∙ same

long_plan : (asked : Option Command) (bytes : List ℕ) → IsSome asked → INPUT_LIMIT < length bytes → answer_for asked bytes ≡ Err TooLong
long_plan None bytes some long = absurd cc
long_plan (Some command) bytes some long = rw (lt-ltb INPUT_LIMIT (length bytes) long) refl

module _ (words : List (List ℕ)) (bytes : List ℕ) where
  plan_asked : (command : Command) → command_of words ≡ Some command → length bytes ≤ INPUT_LIMIT → plan words bytes ≡ report_unless (refusal command bytes) (report_in command bytes)
  plan_asked command asks short = rw (asks, le-ltb INPUT_LIMIT (length bytes) short) refl

  plan_reports : (command : Command) → command_of words ≡ Some command → length bytes ≤ INPUT_LIMIT → refusal command bytes ≡ None → plan words bytes ≡ Ok (report_in command bytes)
  plan_reports command asks short none = plan_asked command asks short ∙ ap (λ (r : Option Cause). report_unless r (report_in command bytes)) none

  input_refused : (command : Command) (cause : Cause) → command_of words ≡ Some command → length bytes ≤ INPUT_LIMIT → Refuses cause command bytes → RefusedSo words bytes cause
  unfolding RefusedSo
  input_refused command cause asks short (inl e) = inl (plan_asked command asks short ∙ ap (λ (r : Option Cause). report_unless r (report_in command bytes)) e)
  input_refused command cause asks short (inr (none, late)) =
      inr (report_in command bytes, plan_reports command asks short none, subst (λ (o : Option Command). LateFor o bytes cause) (sym asks) late)

  module _ (left : Option (List ℕ)) (told : read_of words left ≡ Some bytes) (failed : Type 0) (sure : failed → ⊥) where
    command_refused : (cause : Cause) → OfCommand words left (Refuses cause) → RefusedSo words bytes cause
    command_refused cause (command, asks, (input, agrees, (short, refuses))) =
        let same = agreed (read_of words left) bytes input told agrees in
        input_refused command cause asks (subst (λ (b : List ℕ). length b ≤ INPUT_LIMIT) same short) (subst (Refuses cause command) same refuses)

    refused_so : (cause : Cause) → Means words left failed cause → RefusedSo words bytes cause
    unfolding RefusedSo
    refused_so Usage none = inl (rw none refl)
    refused_so Read (some, rose) = absurd (sure rose)
    refused_so TooLong (some, (input, agrees, long)) =
        inl (long_plan (command_of words) bytes some (subst (λ (b : List ℕ). INPUT_LIMIT < length b) (agreed (read_of words left) bytes input told agrees) long))
    refused_so cause h = command_refused cause h

    -- a report is that of the plan
    says_plan : (text : List ℕ) → OfCommand words left (Reports text) → plan words bytes ≡ Ok text
    says_plan text (command, asks, (input, agrees, (short, reports))) =
        let same = agreed (read_of words left) bytes input told agrees in
        plan_reports command asks (subst (λ (b : List ℕ). length b ≤ INPUT_LIMIT) same short) (subst (λ (b : List ℕ). refusal command b ≡ None) same reports.passes)
        ∙ ap (λ (b : List ℕ). Ok (report_in command b)) (sym same) ∙ ap Ok (sym reports.text_is)

    decides_memory : (planned : Result (List ℕ) Cause) → Decides (ComesLate words bytes) planned (Whole Memory)
    decides_memory (Ok report) = inr (inl refl)
    decides_memory (Err cause) = inr refl

    refused_decides : (cause : Cause) → RefusedSo words bytes cause → Decides (ComesLate words bytes) (plan words bytes) (refused cause)
    unfolding RefusedSo
    refused_decides cause (inl e) = subst (λ (p : Result (List ℕ) Cause). Decides (ComesLate words bytes) p (refused cause)) (sym e) (inl refl)
    refused_decides cause (inr (report, e, late)) =
        subst (λ (p : Result (List ℕ) Cause). Decides (ComesLate words bytes) p (refused cause)) (sym e) (inr (inr (cause, refl, late)))

    says_decides : (outcome : Outcome) (text : List ℕ) → Says words left failed outcome text → Decides (ComesLate words bytes) (plan words bytes) (Whole outcome)
    says_decides Report text says = subst (λ (p : Result (List ℕ) Cause). Decides (ComesLate words bytes) p (Whole Report)) (sym (says_plan text says)) (inl refl)
    says_decides (Refused refusal) text says =
        subst (λ section. Decides (ComesLate words bytes) (plan words bytes) (Whole (Refused (record { cause = refusal.cause; section = section })))) (sym says.0.whole)
        (refused_decides refusal.cause (refused_so refusal.cause says.0.cause))
    says_decides Memory text says = decides_memory (plan words bytes)

    pub plan_decides : (writing : Writing) (sink_failed : Type 0) (said : Said) → EndsSaying words left failed writing sink_failed said → (sink_failed → ⊥)
        → Decides (ComesLate words bytes) (plan words bytes) said
    plan_decides writing sink_failed said e sure_sink = by e.ends
      where
        by : Ends writing sink_failed said e.outcome e.text → Decides (ComesLate words bytes) (plan words bytes) said
        by (inl whole) = subst (Decides (ComesLate words bytes) (plan words bytes)) (sym whole.is) (says_decides e.outcome e.text e.says)
        by (inr cut) = absurd (sure_sink cut.rose)

    -- ---- an acceptable input
    module _ (accepts : IsAcceptable words bytes) where
      abbrev report : List ℕ
      report = report_in accepts.command bytes

      planned : plan words bytes ≡ Ok report
      planned = plan_reports accepts.command accepts.asked accepts.short (accepted_passes accepts.command bytes accepts.accepted accepts.fits)

      nothing_late : (cause : Cause) → ComesLate words bytes cause → ⊥
      nothing_late cause late = accepts.sums cause (subst (λ (o : Option Command). LateFor o bytes cause) accepts.asked late)

      not_refused : (cause : Cause) → RefusedSo words bytes cause → ⊥
      unfolding RefusedSo
      not_refused cause (inl e) = let wrong : Ok report ≡ Err cause = sym planned ∙ e in cc
      not_refused cause (inr (other, e, late)) = nothing_late cause late

      -- a report, or that there was no memory
      report_or_memory : (said : Said) (outcome : Outcome) (text : List ℕ) → said ≡ Whole outcome → Says words left failed outcome text → (said ≡ Whole Report) ⊎ (said ≡ Whole Memory)
      report_or_memory said Report text is says = inl is
      report_or_memory said (Refused refusal) text is says = absurd (not_refused refusal.cause (refused_so refusal.cause says.0.cause))
      report_or_memory said Memory text is says = inr is

      -- what there was to say has room where the report and the line for want of memory have
      outcome_room : (room : Option ℕ) (outcome : Outcome) (text : List ℕ) → HasRoom room report → HasRoom room memory_line → Says words left failed outcome text → HasRoom room text
      outcome_room room Report text has memory says =
          let both : Ok report ≡ Ok text = sym planned ∙ says_plan text says in
          let same : report ≡ text = cc in
          subst (HasRoom room) same has
      outcome_room room (Refused refusal) text has memory says = absurd (not_refused refusal.cause (refused_so refusal.cause says.0.cause))
      outcome_room room Memory text has memory says = subst (HasRoom room) (sym says) memory

      accepted_said : (writing : Writing) (sink_failed : Type 0) (said : Said) → EndsSaying words left failed writing sink_failed said → IsRoomy sink_failed writing.room report
          → (said ≡ Whole Report) ⊎ (said ≡ Whole Memory)
      accepted_said writing sink_failed said e roomy = by e.ends roomy
        where
          by : Ends writing sink_failed said e.outcome e.text → IsRoomy sink_failed writing.room report → (said ≡ Whole Report) ⊎ (said ≡ Whole Memory)
          by (inl whole) roomy = report_or_memory said e.outcome e.text whole.is e.says
          by (inr cut) (inl sure_sink) = absurd (sure_sink cut.rose)
          by (inr cut) (inr (has, memory)) = absurd (cut.no_room (outcome_room writing.room e.outcome e.text has memory e.says))

done_said : (why : Why) → said_by why ≡ Whole Report → why ≡ whys.Done
done_said whys.Done e = refl
done_said why e = absurd cc

memory_said : (why : Why) → said_by why ≡ Whole Memory → why ≡ whys.Memory
memory_said whys.Memory e = refl
memory_said why e = absurd cc

pub acceptable_done : (words : List (List ℕ)) (left : Option (List ℕ)) (failed : Type 0) (writing : Writing) (sink_failed : Type 0) (why : Why) (bytes : List ℕ)
    → EndsSaying words left failed writing sink_failed (said_by why) → read_of words left ≡ Some bytes → (failed → ⊥) → (accepts : IsAcceptable words bytes)
    → IsRoomy sink_failed writing.room (report_in accepts.command bytes) → (why ≡ whys.Done) ⊎ (why ≡ whys.Memory)
acceptable_done words left failed writing sink_failed why bytes ends told sure accepts roomy =
    elim (accepted_said words bytes left told failed sure accepts writing sink_failed (said_by why) ends roomy) [
      | inl report ↦ inl (done_said why report)
      | inr memory ↦ inr (memory_said why memory)
    ]
