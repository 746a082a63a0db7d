-- What comes of the steps, and what becomes of the source, by how the program ends.
use Rattle.qd_engine.proofs.Names.{◌≡◌, ℕ, ◌<◌, ◌≤◌, true, cond, List, [], length, Option, Some, Result, Ok, Err, refl, sym, ap, subst, ◌∙◌, ◌⊎◌, inl, inr, OnOk, IsSome, Vec, INPUT_LIMIT, memory_line, Cause, Usage, Read, TooLong, IsAtEnd, TakesUpTo, line_of, command_of, is_read, reads_by, read_of, document_in, refusal, Late, Said, Whole, Cut, said_by, of_whole, status_of_cause, status_of, status_by, Agrees, OfInput, OfCommand, Refuses, Means, Follows, Reports, Writing, Ends, EndsSaying, Reads, TakesRefused, Takes, TakesFor, Prepares, SaysPrepared, Command, Stop, Why, Outcome, Report, Refused, Memory}
use Rattle.qd_engine.specs.declared.stop.Stop.TheVariants as stops
use Rattle.qd_engine.specs.declared.answer.Why.TheVariants as whys
use Rattle.qd_engine.proofs.TestLaws.{IsOfInput, refusal_is, late_is}

-- ---- what comes of the steps

-- a refusal of an input means that it is refused so
input_means : (words : List (List ℕ)) (left : Option (List ℕ)) (failed : Type 0) (cause : Cause) → IsOfInput cause → OfCommand words left (Refuses cause) → Means words left failed cause
input_means words left failed Usage is h = absurd is
input_means words left failed Read is h = absurd is
input_means words left failed TooLong is h = absurd is
input_means words left failed cause is h = h

refused_is : (command : Command) (bytes : List ℕ) (cause : Cause) → Refuses cause command bytes → IsOfInput cause
refused_is command bytes cause (inl e) = refusal_is command bytes cause e
refused_is command bytes cause (inr (none, late)) = late_is command (document_in command bytes) cause late

-- what a command reads of what is left
abbrev pub read_by : Command → Option (List ℕ) → Option (List ℕ)
read_by command left = cond (is_read command.input) left (Some [])

module _ (words : List (List ℕ)) (left : Option (List ℕ)) (failed : Type 0) (command : Command) (asks : command_of words ≡ Some command) where
  read_whole : read_by command left ≡ read_of words left
  read_whole = rw asks refl

  some_command : IsSome (command_of words)
  some_command = rw asks refl

  pub reads_input : is_read command.input ≡ reads_by words
  reads_input = rw asks refl

  pub read_prepares : (stop : Stop) → Reads (read_by command left) ((is_read command.input ≡ true) × failed) (Err stop) → Prepares words left failed (Err stop)
  read_prepares stops.Memory h = tt
  read_prepares (stops.Refused Read) (reads, h) = (sym reads_input ∙ reads, h)
  read_prepares (stops.Refused TooLong) h = (some_command, subst (λ (l : Option (List ℕ)). OfInput l (λ bytes. INPUT_LIMIT < length bytes)) read_whole h)
  read_prepares (stops.Refused Usage) h = absurd h
  read_prepares (stops.Refused cause) h = absurd h

  pub answer_prepares : (bytes : List ℕ) (result : Result (Vec ℕ) Stop) → Agrees (read_by command left) bytes → length bytes ≤ INPUT_LIMIT
      → Follows (refusal command bytes) (Late command (document_in command bytes)) (λ (text : Vec ℕ). Reports text.items command bytes) result → Prepares words left failed result
  answer_prepares bytes (Ok text) agrees short (none, reports) = (command, asks, (bytes, subst (λ (l : Option (List ℕ)). Agrees l bytes) read_whole agrees, (short, reports)))
  answer_prepares bytes (Err (stops.Refused cause)) agrees short refuses =
      input_means words left failed cause (refused_is command bytes cause refuses)
      (command, asks, (bytes, subst (λ (l : Option (List ℕ)). Agrees l bytes) read_whole agrees, (short, refuses)))
  answer_prepares bytes (Err stops.Memory) agrees short follows = tt

-- the steps after the reading take no more
pub answer_takes : (before after : Option (List ℕ)) (command : Command) (bytes : List ℕ) (result : Result (Vec ℕ) Stop)
    → Follows (refusal command bytes) (Late command (document_in command bytes)) (λ (text : Vec ℕ). Reports text.items command bytes) result → TakesUpTo INPUT_LIMIT before after → Takes before after result
answer_takes before after command bytes (Ok text) follows few = few
answer_takes before after command bytes (Err stops.Memory) follows few = few
answer_takes before after command bytes (Err (stops.Refused TooLong)) refuses few = absurd (refused_is command bytes TooLong refuses)
answer_takes before after command bytes (Err (stops.Refused cause)) refuses few = few

-- from what was prepared to how the program ends
pub prepared_ends : (words : List (List ℕ)) (left : Option (List ℕ)) (source_failed : Type 0) (writing : Writing) (sink_failed : Type 0) (said : Said) (prepared : Result (Vec ℕ) Stop)
    → Prepares words left source_failed prepared → SaysPrepared prepared writing sink_failed said → EndsSaying words left source_failed writing sink_failed said
prepared_ends words left source_failed writing sink_failed said (Ok text) prepares says = record { outcome = Report; text = text.items; says = prepares; ends = says }
prepared_ends words left source_failed writing sink_failed said (Err (stops.Refused cause)) prepares (inl says) = record { outcome = Refused (of_whole cause); text = line_of cause; says = (record { whole = refl; cause = prepares }, refl); ends = says }
prepared_ends words left source_failed writing sink_failed said (Err (stops.Refused cause)) prepares (inr says) = record { outcome = Memory; text = memory_line; says = refl; ends = says }
prepared_ends words left source_failed writing sink_failed said (Err stops.Memory) prepares says = record { outcome = Memory; text = memory_line; says = refl; ends = says }

module _ (writing : Writing) (failed : Type 0) where
  -- ---- the source is empty

  -- what is Done, or planned to be, has the status 0
  status_done : (said : Said) (outcome : Outcome) (text : List ℕ) → Ends writing failed said outcome text → (said ≡ Whole Report) ⊎ (said ≡ Cut 0) → status_of outcome ≡ 0
  status_done said outcome text (inl whole) (inl done) = ap status_by (sym whole.is ∙ done)
  status_done said outcome text (inl whole) (inr wrote) = absurd (let wrong : Whole outcome ≡ Cut 0 = sym whole.is ∙ wrote in cc)
  status_done said outcome text (inr cut) (inl done) = absurd (let wrong : Cut (status_of outcome) ≡ Whole Report = sym cut.is ∙ done in cc)
  status_done said outcome text (inr cut) (inr wrote) = let same : Cut (status_of outcome) ≡ Cut 0 = sym cut.is ∙ wrote in cc

  -- a refusal has another
  other_status : (cause : Cause) → status_of_cause cause ≡ 0 → ⊥
  other_status Usage e = cc
  other_status cause e = cc

  drained : (left : Option (List ℕ)) (said : Said) (prepared : Result (Vec ℕ) Stop) → SaysPrepared prepared writing failed said → OnOk prepared (IsAtEnd left)
      → (said ≡ Whole Report) ⊎ (said ≡ Cut 0) → IsAtEnd left
  drained left said (Ok text) says at_end ends = at_end
  drained left said (Err (stops.Refused cause)) (inl says) at_end ends = absurd (other_status cause (status_done said (Refused (of_whole cause)) (line_of cause) says ends))
  drained left said (Err (stops.Refused cause)) (inr says) at_end ends = absurd (let wrong : 14 ≡ 0 = status_done said Memory memory_line says ends in cc)
  drained left said (Err stops.Memory) says at_end ends = absurd (let wrong : 14 ≡ 0 = status_done said Memory memory_line says ends in cc)

  said_done : (why : Why) → (why ≡ whys.Done) ⊎ (why ≡ whys.Write 0) → (said_by why ≡ Whole Report) ⊎ (said_by why ≡ Cut 0)
  said_done why (inl done) = inl (ap said_by done)
  said_done why (inr wrote) = inr (ap said_by wrote)

  pub drained_if_done : (left : Option (List ℕ)) (why : Why) (prepared : Result (Vec ℕ) Stop) → SaysPrepared prepared writing failed (said_by why) → OnOk prepared (IsAtEnd left)
      → (why ≡ whys.Done) ⊎ (why ≡ whys.Write 0) → IsAtEnd left
  drained_if_done left why prepared says at_end ends = drained left (said_by why) prepared says at_end (said_done why ends)

  -- ---- how much was taken

  module _ (before after : Option (List ℕ)) where
    -- by a refusal
    refused_cut : (cause : Cause) → TakesRefused before after cause → TakesFor before after (Cut (status_of_cause cause))
    refused_cut TooLong many = inr (inl refl, many)
    refused_cut cause few = inl few

    few_or_many : (cause : Cause) → TakesRefused before after cause → TakesFor before after (Whole Memory)
    few_or_many TooLong many = inr many
    few_or_many cause few = inl few

    memory_takes : (said : Said) → Ends writing failed said Memory memory_line → TakesFor before after (Whole Memory) → TakesFor before after said
    memory_takes said (inl whole) either = subst (TakesFor before after) (sym whole.is) either
    memory_takes said (inr cut) (inl few) = subst (TakesFor before after) (sym cut.is) (inl few)
    memory_takes said (inr cut) (inr many) = subst (TakesFor before after) (sym cut.is) (inr (inr refl, many))

    refused_takes : (said : Said) (cause : Cause) → SaysPrepared (Err (stops.Refused cause)) writing failed said → TakesRefused before after cause → TakesFor before after said
    refused_takes said cause (inl (inl whole)) takes = subst (TakesFor before after) (sym whole.is) takes
    refused_takes said cause (inl (inr cut)) takes = subst (TakesFor before after) (sym cut.is) (refused_cut cause takes)
    refused_takes said cause (inr says) takes = memory_takes said says (few_or_many cause takes)

    report_takes : (said : Said) (text : List ℕ) → Ends writing failed said Report text → TakesUpTo INPUT_LIMIT before after → TakesFor before after said
    report_takes said text (inl whole) few = subst (TakesFor before after) (sym whole.is) few
    report_takes said text (inr cut) few = subst (TakesFor before after) (sym cut.is) (inl few)

    pub prepared_takes : (said : Said) (prepared : Result (Vec ℕ) Stop) → SaysPrepared prepared writing failed said → Takes before after prepared → TakesFor before after said
    prepared_takes said (Ok text) says few = report_takes said text.items says few
    prepared_takes said (Err stops.Memory) says few = memory_takes said says (inl few)
    prepared_takes said (Err (stops.Refused cause)) says takes = refused_takes said cause says takes
