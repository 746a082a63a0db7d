-- What the tokens of the section of characters say, one after the other.
use Rattle.qd_doc.proofs.Names.{Block, Bool, End, Err, HasPlace, Lexeme, List, Natural, NoToken, None, NumberFault, Part, Result, Some, Stage, Syntax, ValueRowClassOrEnd, [], and_parts, ap, append-nil, append_assoc, arith, begins_value, block, block_of, blocks_of, codes, coefficients, cond, false, inl, inr, is_digit, is_end, is_word, kind_after, length, length-append, list_all, map, nat_eq, ne_eqb, not, number_of, number_refusal, part_of, pieces, plain, refl, refusal, rows, stage_of, sym, take_while-cons, text, true, true≢false, value, what_after, with_part, word_part, words_before, ℕ, ℤ, ◌++◌, ◌==◌, ◌||◌, ◌∙◌, ◌∷◌, ◌≡◌, ◌⊎◌}
use Rattle.qd_text.specs.declared.natural.NumberFault.TheVariants as faults
use Rattle.qd_doc.specs.declared.part.Stage.TheVariants as stages
use Rattle.qd_doc.specs.declared.part.Part.TheVariants as parts
use Rattle.qd_doc.proofs.ValueWords.{same_word}
use Rattle.qd_doc.proofs.LastRows.{last_rows_are, with_row_is, with_value_is}

-- ---- words

no_word : (p : ℕ → Bool) (byte k : ℕ) (text ks : List ℕ) → p byte ≡ true → p k ≡ false → is_word (byte ∷ text) (k ∷ ks) ≡ false
no_word p byte k text ks begins letter =
    let e : nat_eq byte k ≡ false = ne_eqb byte k (λ same. true≢false (sym begins ∙ ap p same ∙ letter)) in
    rw e refl

-- a token that begins a value is no word that begins with a letter
value_no_word : (text : List ℕ) (k : ℕ) (ks : List ℕ) → begins_value text ≡ true → (is_digit k || k == 45) ≡ false → is_word text (k ∷ ks) ≡ false
value_no_word [] k ks begins letter = refl
value_no_word (byte ∷ text) k ks begins letter = no_word (λ b. is_digit b || b == 45) byte k text ks begins letter

-- a number is no word that begins with a letter
digits_no_word : (text : List ℕ) (k : ℕ) (ks : List ℕ) → list_all is_digit text ≡ true → is_digit k ≡ false → is_word text (k ∷ ks) ≡ false
digits_no_word [] k ks digits letter = refl
digits_no_word (byte ∷ text) k ks digits letter = no_word is_digit byte k text ks (and_parts (is_digit byte) (list_all is_digit text) digits).0 letter

digits_by : (start : ℕ) (b : Bool) (rest : Result ℕ NumberFault) → number_refusal Natural start (cond (not b) (Err faults.NotNumber) rest) ≡ None → b ≡ true
digits_by start true rest e = refl
digits_by start false rest e = absurd cc

natural_digits : (token : Lexeme) → refusal Natural token ≡ None → list_all is_digit token.text ≡ true
unfolding refusal number_of
natural_digits token fits = digits_by token.start (list_all is_digit token.text) _ fits

-- ---- how far reading came

-- the words of the block that is open
abbrev inner : List (List ℕ) → List (List ℕ)
inner words = words_before (codes "class") (words_before (codes "end") words)

words_before-cons : (word other : List ℕ) (words : List (List ℕ)) → words_before word (other ∷ words) ≡ cond (is_word other word) [] (other ∷ words_before word words)
words_before-cons word other words = take_while-cons (λ w. not (is_word w word)) other words ∙ turned (is_word other word)
  where
    turned : (b : Bool) → cond (not b) (other ∷ words_before word words) [] ≡ cond b [] (other ∷ words_before word words)
    turned true = refl
    turned false = refl

inner-cons : (other : List ℕ) (words : List (List ℕ)) → inner (other ∷ words) ≡ cond (is_word other (codes "end")) [] (cond (is_word other (codes "class")) [] (other ∷ inner words))
inner-cons other words = ap (words_before (codes "class")) (words_before-cons (codes "end") other words) ∙ by (is_word other (codes "end"))
  where
    by : (b : Bool) → words_before (codes "class") (cond b [] (other ∷ words_before (codes "end") words)) ≡ cond b [] (cond (is_word other (codes "class")) [] (other ∷ inner words))
    by true = refl
    by false = words_before-cons (codes "class") other (words_before (codes "end") words)

-- the rows that are still to come in it
abbrev rows_of : ℕ → List (List ℕ) → List (List (List ℤ))
rows_of phi words = map (λ row. map (coefficients phi) row) (pieces (codes "row") (inner words))

-- the values that are still to come in the row that is open
abbrev values_of : ℕ → List (List ℕ) → List (List ℤ)
values_of phi words = map (coefficients phi) (words_before (codes "row") (inner words))

-- the blocks before the one that is open, its number, its rows before the one that is open, and the
-- values of that
pub data State : Type 0 where
  Between : (front : List Block) → State
  Named : (front : List Block) → State
  InBlock : (front : List Block) (number : ℕ) (rows : List (List (List ℤ))) → State
  InRow : (front : List Block) (number : ℕ) (rows : List (List (List ℤ))) (values : List (List ℤ)) → State

abbrev pub stage_in : State → Stage
stage_in (Between front) = stages.Conductor
stage_in (Named front) = stages.Class
stage_in (InBlock front number rows) = stages.Number
stage_in (InRow front number rows values) = stages.Row

abbrev pub blocks_in : State → List Block
blocks_in (Between front) = front
blocks_in (Named front) = front
blocks_in (InBlock front number rows) = front ++ block number rows ∷ []
blocks_in (InRow front number rows values) = front ++ block number (rows ++ values ∷ []) ∷ []

-- all blocks, where these words are still to come
unfoldable pub whole : ℕ → State → List (List ℕ) → List Block
whole phi (Between front) words = front ++ blocks_of phi words
whole phi (Named front) words = front ++ block_of phi (inner words) ∷ blocks_of phi words
whole phi (InBlock front number rows) words = front ++ block number (rows ++ rows_of phi words) ∷ blocks_of phi words
whole phi (InRow front number rows values) words = front ++ block number (rows ++ (values ++ values_of phi words) ∷ rows_of phi words) ∷ blocks_of phi words

-- what may stand after a token, by what it says
word_next : (phi : ℕ) (c e : Bool) → cond c Natural (cond e NoToken (ValueRowClassOrEnd phi))
    ≡ (let part = cond c parts.Class (cond e parts.End parts.Row) in cond (is_end part) NoToken (kind_after phi (stage_of part)))
word_next phi true e = refl
word_next phi false true = refl
word_next phi false false = refl

pub kind_next : (phi : ℕ) (stage : Stage) (text : List ℕ)
    → what_after phi (kind_after phi stage) text ≡ cond (is_end (part_of phi stage text)) NoToken (kind_after phi (stage_of (part_of phi stage text)))
kind_next phi stages.Conductor text = word_next phi _ _
kind_next phi stages.Class text = refl
kind_next phi stages.Number text = word_next phi _ _
kind_next phi stages.Row text = by (begins_value text) refl
  where
    by : (b : Bool) → begins_value text ≡ b → what_after phi (ValueRowClassOrEnd phi) text
        ≡ cond (is_end (part_of phi stages.Row text)) NoToken (kind_after phi (stage_of (part_of phi stages.Row text)))
    by true begins = rw (begins, value_no_word text 99 (codes "lass") begins refl, value_no_word text 101 (codes "nd") begins refl) refl
    by false begins = rw begins (word_next phi _ _)

-- a stage at which a word may stand
abbrev pub IsWordStage : Stage → Type 0
IsWordStage stage = stage ≡ stages.Class → ⊥

pub word_said : (phi : ℕ) (stage : Stage) (text : List ℕ) → IsWordStage stage → begins_value text ≡ false → part_of phi stage text ≡ word_part text
word_said phi stages.Conductor text is begins = refl
word_said phi stages.Class text is begins = absurd (is refl)
word_said phi stages.Number text is begins = refl
word_said phi stages.Row text is begins = rw begins refl

module _ (phi : ℕ) (s : State) (text : List ℕ) (part : Part) where
  -- a token that says this ends the section
  pub record Ends : Type 0 where
    pub end : is_end part ≡ true
    pub all : (words : List (List ℕ)) → whole phi s (text ∷ words) ≡ blocks_in s

  -- reading goes on after it
  pub record Goes : Type 0 where
    pub next : State
    pub no_end : is_end part ≡ false
    pub stage : stage_of part ≡ stage_in next
    pub blocks : with_part part (blocks_in s) ≡ blocks_in next
    pub same : (words : List (List ℕ)) → whole phi s (text ∷ words) ≡ whole phi next words
    pub place : HasPlace part (blocks_in s)

pub words_fit : (phi start : ℕ) (stage : Stage) → IsWordStage stage
    → (refusal (kind_after phi stage) (record { start = start; text = codes "class" }) ≡ None) × (refusal (kind_after phi stage) (record { start = start; text = codes "end" }) ≡ None)
unfolding refusal
words_fit phi start stages.Conductor is = (refl, refl)
words_fit phi start stages.Class is = absurd (is refl)
words_fit phi start stages.Number is = (refl, refl)
words_fit phi start stages.Row is = (refl, refl)

-- ---- one token

module _ (phi : ℕ) where
  -- where a block ends, nothing more comes in it
  closed : (s : State) (word : List ℕ) (words : List (List ℕ)) → IsWordStage (stage_in s) → inner (word ∷ words) ≡ []
      → whole phi s (word ∷ words) ≡ blocks_in s ++ blocks_of phi (word ∷ words)
  unfolding whole pieces
  closed (Between front) word words other none = refl
  closed (Named front) word words other none = absurd (other refl)
  closed (InBlock front number rows) word words other none = simp (none, append-nil, append_assoc)
  closed (InRow front number rows values) word words other none = simp (none, append-nil, append_assoc)

  class_goes : (s : State) → IsWordStage (stage_in s) → Goes phi s (codes "class") parts.Class
  unfolding whole blocks_of pieces
  class_goes s other = record {
    next = Named (blocks_in s);
    no_end = refl;
    stage = refl;
    blocks = refl;
    same = λ words. rw (closed s (codes "class") words other (inner-cons (codes "class") words), words_before-cons (codes "end") (codes "class") words) refl;
    place = tt;
  }

  end_ends : (s : State) → IsWordStage (stage_in s) → Ends phi s (codes "end") parts.End
  unfolding blocks_of pieces
  end_ends s other = record { end = refl; all = λ words. rw (closed s (codes "end") words other (inner-cons (codes "end") words)) (append-nil (blocks_in s)) }

  number_goes : (front : List Block) (text : List ℕ) → list_all is_digit text ≡ true → Goes phi (Named front) text (parts.Number (value text))
  unfolding whole blocks_of pieces
  number_goes front text digits =
      let no_class : is_word text (codes "class") ≡ false = digits_no_word text 99 (codes "lass") digits refl in
      let no_end : is_word text (codes "end") ≡ false = digits_no_word text 101 (codes "nd") digits refl in
      record {
        next = InBlock front (value text) [];
        no_end = refl;
        stage = refl;
        blocks = refl;
        same = λ words. rw (inner-cons text words, words_before-cons (codes "end") text words, no_end, no_class) refl;
        place = tt;
      }

  -- a row begins in the last block
  row_goes : (s : State) (front : List Block) (number : ℕ) (rows : List (List (List ℤ))) → blocks_in s ≡ front ++ block number rows ∷ []
      → ((words : List (List ℕ)) → whole phi s (codes "row" ∷ words) ≡ whole phi (InRow front number rows []) words) → Goes phi s (codes "row") parts.Row
  row_goes s front number rows blocks same = record {
    next = InRow front number rows [];
    no_end = refl;
    stage = refl;
    blocks = rw blocks (with_row_is front number rows);
    same = same;
    place = rw blocks (omega (arith, length-append front (block number rows ∷ [])));
  }

  value_goes : (front : List Block) (number : ℕ) (rows : List (List (List ℤ))) (values : List (List ℤ)) (text : List ℕ)
      → is_word text (codes "class") ≡ false → is_word text (codes "end") ≡ false → is_word text (codes "row") ≡ false
      → Goes phi (InRow front number rows values) text (parts.Value (plain (coefficients phi text)))
  unfolding whole blocks_of pieces
  value_goes front number rows values text no_class no_end no_row =
      let last = block number (rows ++ values ∷ []) in
      record {
        next = InRow front number rows (values ++ coefficients phi text ∷ []);
        no_end = refl;
        stage = refl;
        blocks = with_value_is front number rows values (coefficients phi text);
        same = λ words. rw (inner-cons text words, words_before-cons (codes "end") text words, no_end, no_class, words_before-cons (codes "row") text (inner words), no_row)
            (rw (append_assoc values (coefficients phi text ∷ []) (values_of phi words)) refl);
        place = (
          omega (arith, length-append front (last ∷ [])),
          omega (arith, length-append rows (values ∷ []), ap length (last_rows_are front last)),
        );
      }

  abbrev Moves : State → List ℕ → Type 0
  Moves s text = Ends phi s text (part_of phi (stage_in s) text) ⊎ Goes phi s text (part_of phi (stage_in s) text)

  module _ (start : ℕ) (text : List ℕ) where
    word_moves : (s : State) (c e r b : Bool) → IsWordStage (stage_in s) → is_word text (codes "class") ≡ c → is_word text (codes "end") ≡ e → is_word text (codes "row") ≡ r → begins_value text ≡ b
        → refusal (kind_after phi (stage_in s)) (record { start = start; text = text }) ≡ None → Moves s text
    unfolding refusal whole blocks_of pieces
    word_moves s true e r b other is_class is_end is_row begins fits =
        rw (same_word text (codes "class") is_class, word_said phi (stage_in s) (codes "class") other refl) (inr (class_goes s other))
    word_moves s false true r b other is_class is_end is_row begins fits =
        rw (same_word text (codes "end") is_end, word_said phi (stage_in s) (codes "end") other refl) (inl (end_ends s other))
    word_moves (Between front) false false r b other is_class is_end is_row begins fits = absurd (let no : Some (Syntax start End) ≡ None = rw (is_class, is_end) at fits in cc)
    word_moves (Named front) false false r b other is_class is_end is_row begins fits = absurd (other refl)
    word_moves (InBlock front number rows) false false true b other is_class is_end is_row begins fits =
        rw (same_word text (codes "row") is_row)
        (inr (row_goes (InBlock front number rows) front number rows refl (λ words. rw (inner-cons (codes "row") words, words_before-cons (codes "end") (codes "row") words) refl)))
    word_moves (InBlock front number rows) false false false b other is_class is_end is_row begins fits = absurd (let no : Some (Syntax start End) ≡ None = rw (is_class, is_end, is_row) at fits in cc)
    word_moves (InRow front number rows values) false false true b other is_class is_end is_row begins fits =
        rw (same_word text (codes "row") is_row)
        (inr (row_goes (InRow front number rows values) front number (rows ++ values ∷ []) refl (λ words.
        rw (inner-cons (codes "row") words, words_before-cons (codes "end") (codes "row") words) (simp (append-nil, append_assoc)))))
    word_moves (InRow front number rows values) false false false true other is_class is_end is_row begins fits =
        rw begins (inr (value_goes front number rows values text is_class is_end is_row))
    word_moves (InRow front number rows values) false false false false other is_class is_end is_row begins fits =
        absurd (let no : Some (Syntax start End) ≡ None = rw (begins, is_class, is_end, is_row) at fits in cc)

    -- a token that may stand there ends the section, or reading goes on after it
    pub move : (s : State) → refusal (kind_after phi (stage_in s)) (record { start = start; text = text }) ≡ None → Moves s text
    move (Named front) fits = inr (number_goes front text (natural_digits (record { start = start; text = text }) fits))
    move (Between front) fits = word_moves (Between front) _ _ _ _ (λ e. absurd cc) refl refl refl refl fits
    move (InBlock front number rows) fits = word_moves (InBlock front number rows) _ _ _ _ (λ e. absurd cc) refl refl refl refl fits
    move (InRow front number rows values) fits = word_moves (InRow front number rows values) _ _ _ _ (λ e. absurd cc) refl refl refl refl fits

-- ---- what holds while parts are put into blocks

-- blocks that were read up to what was read last
pub record IsOpen (stage : Stage) (blocks : List Block) : Type 0 where
  pub state : State
  pub stage_is : stage ≡ stage_in state
  pub blocks_are : blocks ≡ blocks_in state

pub none_open : IsOpen stages.Conductor []
none_open = record { state = Between []; stage_is = refl; blocks_are = refl }

module _ (phi start : ℕ) (text : List ℕ) where
  go_by : (s : State) (part : Part) → is_end part ≡ false → Ends phi s text part ⊎ Goes phi s text part → HasPlace part (blocks_in s) × IsOpen (stage_of part) (with_part part (blocks_in s))
  go_by s part no_end (inl ends) = absurd (true≢false (sym ends.end ∙ no_end))
  go_by s part no_end (inr goes) = (goes.place, record { state = goes.next; stage_is = goes.stage; blocks_are = goes.blocks })

  pub go : (stage : Stage) (blocks : List Block) (part : Part) → IsOpen stage blocks → refusal (kind_after phi stage) (record { start = start; text = text }) ≡ None
      → part_of phi stage text ≡ part → is_end part ≡ false → HasPlace part blocks × IsOpen (stage_of part) (with_part part blocks)
  go stage blocks part opened fits said no_end =
      rw (opened.blocks_are, ← said) (go_by opened.state (part_of phi stage text) (rw said no_end) (rw (← opened.stage_is) at (move phi start text opened.state (rw opened.stage_is at fits))))
