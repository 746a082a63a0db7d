-- The canonical text of a document is read as the document.
use Rattle.qd_doc.proofs.Names.{All, All-head, All-tail, AllByRecursion, Block, Bool, Characters, ConductorNumber, DocRefusal, Document, EndWord, Err, Expected, FormWord, Given, IfSome, IsGivenInRange, IsInRange, IsNarrow, IsValueOf, Lexeme, List, MatchResult, Natural, NoToken, None, Ok, Omega, One, Option, OrderNumber, Parses, Part, PrintedIsRead, Qdouble, Result, RootsNumber, Some, Stage, Table, What, Word, [], and-true, ap, append-nil, append_assoc, are_trivial, arith, block, block_lines, canonical_lines, canonical_text, characters_lines, codes, cond, decimal, decimal_spells, digits_are_word, document_of, drop, eq-eqb, eqb-true, expected, false, flat_map, flat_map-append, form_of, is_blank, is_conductor, is_end, is_plain, is_token_byte, is_word, kind_after, le-leb, length, length-drop, length-map, line, list_all, list_all-append, listing_of, lt-ltb, ltb-true, map, map-append, missing, nat_eq, nat_lt, number_of-decimal, omega_lines, part_of, phi_of, plain, read, read_blocks, read_characters, read_document, read_end, read_exponents, read_given, read_number, read_numbers, read_order, read_roots, recursion_from_All, reduced, reduced_document, refl, refusal, replicate, row_words, rows, skip, stage_of, stop_of, subst, suc, sym, take, take-append-drop, text, tokens, true, value, value_text, with_part, word_of, words_of, words_of-blank, words_of-nil, words_of-word, zero, ℕ, ℤ, ◌%◌, ◌*◌, ◌++◌, ◌<◌, ◌==◌, ◌>>=◌, ◌^◌, ◌∙◌, ◌∷◌, ◌≡◌}
use Rattle.qd_text.specs.declared.expected.Expected.TheVariants.{Order, Roots}
use Rattle.qd_doc.proofs.Ranges.{IsBetween}
use Rattle.qd_doc.specs.declared.part.Stage.TheVariants as stages
use Rattle.qd_doc.specs.declared.part.Part.TheVariants as parts
use Rattle.qd_doc.proofs.Entries.{small_entry}
use Rattle.qd_doc.proofs.Loops.{blocks_step}
use Rattle.qd_doc.proofs.Parts.{IsWordStage, word_said, words_fit}
use Rattle.qd_doc.proofs.LastRows.{with_row_is, with_value_is}
use Rattle.qd_doc.specs.declared.refusal.DocRefusal.TheVariants as refusals
use Rattle.qd_doc.proofs.Places.{Reads}
use Rattle.qd_doc.proofs.Sections.{IsWhole, reads_document}
use Rattle.qd_doc.proofs.ValueTexts.{plain-value, value_fits, value_said}

-- ---- the words of lines

-- a plain word, and a blank after it
words_of-plain : (word : List ℕ) (blank : ℕ) (rest : List ℕ) → is_plain word ≡ true → is_blank blank ≡ true → blank == 35 ≡ false
    → words_of (word ++ blank ∷ rest) ≡ word ∷ words_of rest
words_of-plain word blank rest plain is hash =
    let both = and-true (nat_lt 0 (length word)) (list_all is_token_byte word) plain in
    words_of-word word blank rest (ltb-true 0 (length word) both.0) both.1 is hash

words_of-line : (words : List (List ℕ)) (rest : List ℕ) → list_all is_plain words ≡ true → words_of (line words ++ rest) ≡ words ++ words_of rest
words_of-line [] rest all = words_of-blank 10 0 rest refl refl
words_of-line (word ∷ []) rest all =
    let regrouped : line (word ∷ []) ++ rest ≡ word ++ 10 ∷ rest = simp append_assoc in
    rw regrouped (words_of-plain word 10 rest (and-true (is_plain word) true all).0 refl refl)
words_of-line (word ∷ next ∷ words) rest all =
    let parts = and-true (is_plain word) (list_all is_plain (next ∷ words)) all in
    let regrouped : line (word ∷ next ∷ words) ++ rest ≡ word ++ 32 ∷ (line (next ∷ words) ++ rest) = simp append_assoc in
    rw regrouped (words_of-plain word 32 _ parts.0 refl refl ∙ ap (λ later. word ∷ later) (words_of-line (next ∷ words) rest parts.1))

-- the words of lines are the words of the first, then of the second, and so on
abbrev words_in : List (List (List ℕ)) → List (List ℕ)
words_in lines = flat_map (λ words. words) lines

-- all words are plain
abbrev ArePlain : List (List ℕ) → Type 0
ArePlain words = list_all is_plain words ≡ true

words_of-lines : (lines : List (List (List ℕ))) → ArePlain (words_in lines) → words_of (flat_map line lines) ≡ words_in lines
words_of-lines [] all = words_of-nil
words_of-lines (words ∷ lines) all =
    let both = and-true (list_all is_plain words) (list_all is_plain (words_in lines)) (sym (list_all-append is_plain words (words_in lines)) ∙ all) in
    words_of-line words (flat_map line lines) both.0 ∙ ap (λ more. words ++ more) (words_of-lines lines both.1)

-- ---- the words of a document

plain-decimal : (n : ℕ) → n < 2 ^ 64 → is_plain (decimal n) ≡ true
plain-decimal n small =
    let spells = decimal_spells n small in
    let filled : nat_lt 0 (length (decimal n)) ≡ true = lt-ltb 0 (length (decimal n)) spells.filled in
    rw (filled, digits_are_word (decimal n) spells.digits_only) refl

-- numbers of 32 bits
abbrev AreSmall : List ℕ → Type 0
AreSmall numbers = AllByRecursion (λ n. n < 2 ^ 32) numbers

words_in-rows : (count width : ℕ) (numbers : List ℕ) → length numbers ≡ count * width → words_in (rows count width numbers) ≡ map decimal numbers
unfolding rows
words_in-rows zero width [] e = refl
words_in-rows zero width (n ∷ numbers) e = absurd (omega arith)
words_in-rows (suc count) width numbers e =
    let left : length (drop width numbers) ≡ count * width = omega (arith, length-drop width numbers) in
    rw (words_in-rows count width (drop width numbers) left, ← map-append decimal (take width numbers) (drop width numbers), take-append-drop width numbers) refl

-- the words of the exponents, by whether all are 0
exponent_words : Bool → ℕ → List ℕ → List (List ℕ)
exponent_words trivial roots exponents = cond trivial (codes "trivial" ∷ []) (codes "dense" ∷ map decimal (reduced roots exponents))

words_in-omega : (n roots : ℕ) (exponents : List ℕ) (trivial : Bool) → are_trivial roots exponents ≡ trivial → length exponents ≡ n * n * n
    → words_in (omega_lines n roots exponents) ≡ codes "omega" ∷ exponent_words trivial roots exponents
unfolding omega_lines exponent_words
words_in-omega n roots exponents true trivial len = rw trivial refl
words_in-omega n roots exponents false trivial len =
    rw (trivial, words_in-rows (n * n) n (reduced roots exponents) (length-map exponents (λ exponent. exponent % roots) ∙ len)) refl

-- the words of a document, of which these follow the exponents
document_words : Document → List (List ℕ) → List (List ℕ)
document_words document rest =
    codes "qdouble" ∷ codes "1" ∷ codes "order" ∷ decimal document.order ∷ codes "table" ∷ (map decimal document.table
    ++ (codes "roots" ∷ decimal document.roots ∷ codes "omega"
    ∷ (exponent_words (are_trivial document.roots document.exponents) document.roots document.exponents ++ rest)))

last_words : Option Given → List (List ℕ)
last_words characters = words_in (characters_lines characters) ++ codes "end" ∷ []

words_in-document : (document : Document) → IsInRange document → words_in (canonical_lines document) ≡ document_words document (last_words document.characters)
unfolding canonical_lines document_words last_words
words_in-document document in_range =
    let n = document.order in
    simp (flat_map-append, words_in-rows n n document.table in_range.table, words_in-omega n document.roots document.exponents _ refl in_range.exponents)

small-reduced : (roots : ℕ) (exponents : List ℕ) → IsBetween 1 64 roots → AreSmall (reduced roots exponents)
small-reduced roots [] within = tt
small-reduced roots (e ∷ exponents) within = (omega arith, small-reduced roots exponents within)

-- the numbers of blocks fit in 32 bits
abbrev HasSmallNumber : Block → Type 0
HasSmallNumber b = b.representative < 2 ^ 32

-- the values of a block are values of the conductor k
abbrev HasValues : ℕ → Block → Type 0
HasValues k b = All (λ row. All (IsValueOf k) row) b.rows

words_in-append : (a b : List (List (List ℕ))) → words_in (a ++ b) ≡ words_in a ++ words_in b
words_in-append a b = flat_map-append (λ words. words) a b

-- exponents that are all 0
reduced-trivial : (roots : ℕ) (exponents : List ℕ) → are_trivial roots exponents ≡ true → reduced roots exponents ≡ replicate (length exponents) 0
reduced-trivial roots [] trivial = refl
reduced-trivial roots (e ∷ exponents) trivial =
    let both = and-true (nat_eq (e % roots) 0) (are_trivial roots exponents) trivial in
    rw (eqb-true (e % roots) 0 both.0, reduced-trivial roots exponents both.1) refl

-- ---- reading words that fit

-- from tokens that spell these words a reader leaves those that spell some more, and answers by them; and where
-- those are plain, all are
record Takes {A : Type 0} (reader : List Lexeme → Result A DocRefusal) (words more : List (List ℕ)) (answer : List Lexeme → A) : Type 0 where
  took : (left : List Lexeme) → map text left ≡ words → (rest : List Lexeme) × (reader left ≡ Ok (answer rest)) × (map text rest ≡ more)
  all_plain : ArePlain more → ArePlain words

takes_none : {A : Type 0} (words : List (List ℕ)) (answer : List Lexeme → A) → Takes (λ left. Ok (answer left)) words words answer
takes_none words answer = record { took = λ left e. (left, refl, e); all_plain = λ all. all }

-- one reader, and then another
takes_then : {A B : Type 0} {reader : List Lexeme → Result A DocRefusal} {words between more : List (List ℕ)} {first : List Lexeme → A} {answer : List Lexeme → B} (next : A → Result B DocRefusal)
    → Takes reader words between first → Takes (λ rest. next (first rest)) between more answer → Takes (λ left. reader left >>= next) words more answer
takes_then next one two = record {
  took = λ left e.
      let a = one.took left e in
      let b = two.took a.0 a.2 in
      (b.0, rw a.1 b.1, b.2);
  all_plain = λ all. one.all_plain (two.all_plain all);
}

word-same : (word : List ℕ) → is_word word word ≡ true
word-same [] = refl
word-same (byte ∷ word) = rw (eq-eqb byte byte refl, word-same word) refl

-- a token with this text is plain, and isn't refused, wherever it stands
abbrev Fits : What → List ℕ → Type 0
Fits kind word = (is_plain word ≡ true) × ((start : ℕ) → refusal kind (record { start = start; text = word }) ≡ None)

number_fits : (kind : What) (n : ℕ) → n < 2 ^ 32 → ((start : ℕ) → refusal kind (record { start = start; text = decimal n }) ≡ None) → Fits kind (decimal n)
number_fits kind n small fits = (plain-decimal n (omega arith), fits)

natural_fits : (n : ℕ) → n < 2 ^ 32 → Fits Natural (decimal n)
unfolding refusal
natural_fits n small = number_fits Natural n small (λ start. rw (number_of-decimal n small) refl)

takes_same : {A : Type 0} {reader other : List Lexeme → Result A DocRefusal} {words more : List (List ℕ)} {answer : List Lexeme → A} → ((left : List Lexeme) → reader left ≡ other left)
    → Takes other words more answer → Takes reader words more answer
takes_same same one = record { took = λ left e. let a = one.took left e in (a.0, same left ∙ a.1, a.2); all_plain = one.all_plain }

module _ (offset : ℕ) where
  token_by : {A : Type 0} (view : List ℕ → A) (kind : What) (word : List ℕ) (words : List (List ℕ)) → Fits kind word → (left : List Lexeme) → map text left ≡ word ∷ words
      → (rest : List Lexeme) × (read view offset kind left ≡ Ok (view word, rest)) × (map text rest ≡ words)
  unfolding read
  token_by view kind word words fits [] e = absurd cc
  token_by view kind word words fits (token ∷ left) e =
      let same : token.text ≡ word = cc in
      let fit : refusal kind token ≡ None = subst (λ (v : List ℕ). refusal kind (record { start = token.start; text = v }) ≡ None) (sym same) (fits.1 token.start) in
      (left, rw (fit, same) refl, cc)

  token_taken : {A : Type 0} (view : List ℕ → A) (kind : What) (word : List ℕ) (words : List (List ℕ)) → Fits kind word
      → Takes (λ left. read view offset kind left) (word ∷ words) words (λ rest. (view word, rest))
  token_taken view kind word words fits = record { took = token_by view kind word words fits; all_plain = λ all. rw (fits.0, all) refl }

  skip_taken : (kind : What) (word : List ℕ) (words : List (List ℕ)) → Fits kind word → Takes (λ left. skip offset kind left) (word ∷ words) words (λ rest. rest)
  skip_taken kind word words fits = takes_then _ (token_taken (λ text. text) kind word words fits) (takes_none words (λ rest. rest))

  word_taken : (expected : Expected) (words : List (List ℕ)) → is_plain (word_of expected) ≡ true → Takes (λ left. skip offset (Word expected) left) (word_of expected ∷ words) words (λ rest. rest)
  unfolding refusal
  word_taken expected words plain = skip_taken (Word expected) (word_of expected) words (plain, λ start. rw (word-same (word_of expected)) refl)

  number_taken : (kind : What) (n : ℕ) (words : List (List ℕ)) → n < 2 ^ 32 → ((start : ℕ) → refusal kind (record { start = start; text = decimal n }) ≡ None)
      → Takes (λ left. read_number offset kind left) (decimal n ∷ words) words (λ rest. (n, rest))
  number_taken kind n words small fits = rw (decimal_spells n (omega arith)).value_is at (token_taken value kind (decimal n) words (number_fits kind n small fits))

  numbers_taken : (numbers : List ℕ) (words : List (List ℕ)) → AreSmall numbers
      → Takes (λ left. read_numbers offset (length numbers) left) (map decimal numbers ++ words) words (λ rest. (numbers, rest))
  unfolding read_numbers
  numbers_taken [] words small = takes_none words (λ rest. ([], rest))
  numbers_taken (n ∷ numbers) words small =
      takes_then _ (number_taken Natural n (map decimal numbers ++ words) small.0 (natural_fits n small.0).1)
      (takes_then _ (numbers_taken numbers words small.1) (takes_none words (λ rest. (n ∷ numbers, rest))))

  order_taken : (n : ℕ) (words : List (List ℕ)) → IsBetween 1 60 n
      → Takes (λ left. read_order offset left) (codes "qdouble" ∷ codes "1" ∷ codes "order" ∷ decimal n ∷ codes "table" ∷ words) words (λ rest. (n, rest))
  unfolding read_order refusal
  order_taken n words within =
      let small : n < 2 ^ 32 = omega (arith, within.1) in
      takes_then _ (word_taken Qdouble _ refl) (takes_then _ (word_taken One _ refl) (takes_then _ (word_taken Order _ refl)
      (takes_then _ (number_taken OrderNumber n _ small (λ start. rw (number_of-decimal n small, le-leb 1 n within.0, le-leb n 60 within.1) refl))
      (takes_then _ (word_taken Table words refl) (takes_none words (λ rest. (n, rest)))))))

  roots_taken : (roots : ℕ) (words : List (List ℕ)) → IsBetween 1 64 roots
      → Takes (λ left. read_roots offset left) (codes "roots" ∷ decimal roots ∷ codes "omega" ∷ words) words (λ rest. (roots, rest))
  unfolding read_roots refusal
  roots_taken roots words within =
      let small : roots < 2 ^ 32 = omega (arith, within.1) in
      takes_then _ (word_taken Roots _ refl)
      (takes_then _ (number_taken RootsNumber roots _ small (λ start. rw (number_of-decimal roots small, le-leb 1 roots within.0, le-leb roots 64 within.1) refl))
      (takes_then _ (word_taken Omega words refl) (takes_none words (λ rest. (roots, rest)))))

  exponents_taken : (n roots : ℕ) (exponents : List ℕ) (b : Bool) (words : List (List ℕ)) → are_trivial roots exponents ≡ b → length exponents ≡ n * n * n → IsBetween 1 64 roots
      → Takes (λ left. read_exponents offset n left) (exponent_words b roots exponents ++ words) words (λ rest. (reduced roots exponents, rest))
  unfolding read_exponents exponent_words refusal
  exponents_taken n roots exponents true words trivial len within =
      takes_then _ (token_taken listing_of FormWord (codes "trivial") words (refl, λ start. refl))
      (rw (reduced-trivial roots exponents trivial, len) (takes_none words (λ rest. (replicate (n * n * n) 0, rest))))
  exponents_taken n roots exponents false words trivial len within =
      let count : length (reduced roots exponents) ≡ n * n * n = length-map exponents (λ exponent. exponent % roots) ∙ len in
      takes_then _ (token_taken listing_of FormWord (codes "dense") (map decimal (reduced roots exponents) ++ words) (refl, λ start. refl))
      (rw count at (numbers_taken (reduced roots exponents) words (small-reduced roots exponents within)))

  nothing_by : (left : List Lexeme) → map text left ≡ [] → (rest : List Lexeme) × (skip offset NoToken left ≡ Ok []) × (map text rest ≡ [])
  unfolding read missing
  nothing_by [] e = ([], refl, refl)
  nothing_by (token ∷ left) e = absurd cc

  nothing_taken : Takes (λ left. skip offset NoToken left) [] [] (λ rest. [])
  nothing_taken = record { took = nothing_by; all_plain = λ all. all }

  -- ---- the section of characters

  module _ (k : ℕ) (entry : is_conductor k ≡ true) where
    abbrev phi : ℕ
    phi = phi_of k

    -- reading goes on from these blocks, and comes to those
    abbrev Grows : Stage → List Block → List (List ℕ) → List Block → Type 0
    Grows stage blocks words all = Takes (λ left. read_blocks offset phi stage blocks left) words [] (λ rest. (all, rest))

    -- one word
    part_taken : (stage : Stage) (blocks all : List Block) (word : List ℕ) (words : List (List ℕ)) (part : Part) → Fits (kind_after phi stage) word → part_of phi stage word ≡ part
        → Takes (λ left. cond (is_end part) (Ok (blocks, left)) (read_blocks offset phi (stage_of part) (with_part part blocks) left)) words [] (λ rest. (all, rest))
        → Grows stage blocks (word ∷ words) all
    part_taken stage blocks all word words part fits said on =
        takes_same (blocks_step offset phi stage blocks) (takes_then _ (token_taken (part_of phi stage) (kind_after phi stage) word words fits) (rw said on))

    -- the values of a row
    values_taken : (front : List Block) (number : ℕ) (rows : List (List (List ℤ))) (done values : List (List ℤ)) (words : List (List ℕ)) (all : List Block) → All (IsValueOf k) values
        → Grows stages.Row (front ++ block number (rows ++ (done ++ values) ∷ []) ∷ []) words all
        → Grows stages.Row (front ++ block number (rows ++ done ∷ []) ∷ []) (map value_text values ++ words) all
    values_taken front number rows done [] words all are on = rw append-nil at on
    values_taken front number rows done (v ∷ values) words all are on =
        let is = All-head (IsValueOf k) v values are in
        part_taken stages.Row _ all (value_text v) (map value_text values ++ words) (parts.Value (plain v)) (plain-value v, value_fits k entry v is) (value_said k entry v is)
        (rw (with_value_is front number rows done v)
        (values_taken front number rows (done ++ v ∷ []) values words all (All-tail (IsValueOf k) v values are) (rw (append_assoc done (v ∷ []) values) on)))

    -- the rows of a block, after its number or after a row
    rows_taken : (stage : Stage) (front : List Block) (number : ℕ) (done rows : List (List (List ℤ))) (words : List (List ℕ)) (all : List Block)
        → IsWordStage stage → Fits (kind_after phi stage) (codes "row") → All (λ row. All (IsValueOf k) row) rows
        → ((later : Stage) → IsWordStage later → Grows later (front ++ block number (done ++ rows) ∷ []) words all)
        → Grows stage (front ++ block number done ∷ []) (words_in (map row_words rows) ++ words) all
    unfolding refusal
    rows_taken stage front number done [] words all is fits are on = rw append-nil at (on stage is)
    rows_taken stage front number done (row ∷ rows) words all is fits are on =
        let each = λ (row : List (List ℤ)). All (IsValueOf k) row in
        rw (append_assoc (map value_text row) (words_in (map row_words rows)) words)
        (part_taken stage _ all (codes "row") _ parts.Row fits (word_said phi stage (codes "row") is refl)
        (rw (with_row_is front number done)
        (values_taken front number done [] row (words_in (map row_words rows) ++ words) all (All-head each row rows are)
        (rows_taken stages.Row front number (done ++ row ∷ []) rows words all (λ e. absurd cc) (refl, λ start. refl) (All-tail each row rows are)
        (rw (append_assoc done (row ∷ []) rows) on)))))

    -- the blocks up to the end
    blocks_taken : (stage : Stage) (front blocks : List Block) → IsWordStage stage → All HasSmallNumber blocks → All (HasValues k) blocks
        → Grows stage front (words_in (flat_map block_lines blocks) ++ codes "end" ∷ []) (front ++ blocks)
    unfolding refusal
    blocks_taken stage front [] is small are =
        part_taken stage front _ (codes "end") [] parts.End (refl, λ start. (words_fit phi start stage is).1) (word_said phi stage (codes "end") is refl)
        (rw (append-nil front) (takes_none [] (λ rest. (front, rest))))
    blocks_taken stage front (b ∷ blocks) is small are =
        let n = b.representative in
        let narrow = All-head HasSmallNumber b blocks small in
        let number : parts.Number (value (decimal n)) ≡ parts.Number n = ap parts.Number (decimal_spells n (omega (arith, narrow))).value_is in
        let rest = words_in (flat_map block_lines blocks) ++ codes "end" ∷ [] in
        rw (words_in-append (map row_words b.rows) (flat_map block_lines blocks), append_assoc (words_in (map row_words b.rows)) (words_in (flat_map block_lines blocks)) (codes "end" ∷ []))
        (part_taken stage front _ (codes "class") _ parts.Class (refl, λ start. (words_fit phi start stage is).0) (word_said phi stage (codes "class") is refl)
        (part_taken stages.Class front _ (decimal n) _ (parts.Number n) (natural_fits n narrow) number
        (rows_taken stages.Number front n [] b.rows rest _ (λ e. absurd cc) (refl, λ start. refl) (All-head (HasValues k) b blocks are)
        (λ later word. rw (append_assoc front (b ∷ []) blocks) at (blocks_taken later (front ++ b ∷ []) blocks word (All-tail HasSmallNumber b blocks small) (All-tail (HasValues k) b blocks are))))))

  characters_taken : (characters : Option Given) → IfSome characters IsGivenInRange → IfSome characters (λ given. All HasSmallNumber given.blocks)
      → Takes (λ left. read_characters offset (form_of characters) left) (last_words characters) [] (λ rest. characters)
  unfolding read_characters read_end read_given last_words characters_lines refusal
  characters_taken None in_range small =
      takes_then _ (takes_then _ (skip_taken EndWord (codes "end") [] (refl, λ start. refl)) nothing_taken) (takes_none [] (λ rest. None))
  characters_taken (Some given) in_range small =
      let k = given.conductor in
      let narrow : k < 2 ^ 32 = omega (arith, small_entry k in_range.conductor) in
      takes_then _ (takes_then _ (word_taken Characters _ refl)
      (takes_then _ (number_taken ConductorNumber k _ narrow (λ start. rw (number_of-decimal k narrow, in_range.conductor) refl))
      (takes_then _ (blocks_taken k in_range.conductor stages.Conductor [] given.blocks (λ e. absurd cc) small in_range.values) (takes_none [] (λ rest. (given, rest))))))
      (takes_then _ nothing_taken (takes_none [] (λ rest. Some given)))

  -- the words of a document are read as the document
  document_taken : (document : Document) → IsInRange document → IsNarrow document
      → Takes (λ left. read_document offset (form_of document.characters) left) (document_words document (last_words document.characters)) [] (λ rest. reduced_document document)
  unfolding read_document document_words
  document_taken document in_range narrow =
      let small = recursion_from_All (λ number. number < 2 ^ 32) document.table narrow.table in
      let table = λ (words : List (List ℕ)). rw in_range.table at (numbers_taken document.table words small) in
      takes_then _ (order_taken document.order _ in_range.order)
      (takes_then _ (table _)
      (takes_then _ (roots_taken document.roots _ in_range.roots)
      (takes_then _ (exponents_taken document.order document.roots document.exponents _ _ refl in_range.exponents in_range.roots)
      (takes_then _ (characters_taken document.characters in_range.characters narrow.classes) (takes_none [] (λ rest. reduced_document document))))))

-- what is known of a canonical text: no token is refused, and its contents are the document's
pub record IsReadBack (document : Document) : Type 0 where
  pub whole : stop_of (form_of document.characters) (canonical_text document) ≡ None
  pub contents : document_of (form_of document.characters) (tokens (canonical_text document)) ≡ reduced_document document

pub read_back : (document : Document) → IsInRange document → IsNarrow document → IsReadBack document
unfolding stop_of
read_back document in_range narrow =
    let bytes = canonical_text document in
    let all = tokens bytes in
    let offset = length bytes in
    let form = form_of document.characters in
    let taken = document_taken offset document in_range narrow in
    let words = words_in-document document in_range in
    let found = taken.took all (words_of-lines (canonical_lines document) (rw words (taken.all_plain refl)) ∙ words) in
    let known : Reads form offset all (Ok (reduced_document document)) (IsWhole offset all form) = rw found.1 at (reads_document offset all form) in
    record { whole = known.lawful; contents = sym known.contents }

none_refused : {o : Option DocRefusal} {r : DocRefusal} → o ≡ None → o ≡ Some r → ⊥
none_refused e f = cc

read_by : (document : Document) (answer : Result Document DocRefusal) → IsReadBack document → Parses (form_of document.characters) (canonical_text document) answer
    → MatchResult answer (λ read. read ≡ reduced_document document) (λ refusal. refusal ≡ refusals.Memory)
read_by document (Ok read) back parses = parses.1 ∙ back.contents
read_by document (Err (refusals.Syntax offset expected)) back parses = absurd (none_refused back.whole parses)
read_by document (Err (refusals.Wide offset)) back parses = absurd (none_refused back.whole parses)
read_by document (Err (refusals.Section offset)) back parses = absurd (none_refused back.whole parses)
read_by document (Err (refusals.Order number)) back parses = absurd (none_refused back.whole parses)
read_by document (Err (refusals.Roots number)) back parses = absurd (none_refused back.whole parses)
read_by document (Err refusals.Memory) back parses = refl

pub printed_is_read : PrintedIsRead
printed_is_read document in_range narrow =
    let back = read_back document in_range narrow in
    (back.whole, λ answer parses. read_by document answer back parses)
