-- Reading what follows the exponents, and so a whole document, finds the first refusal, and the contents by
-- their places.
use Rattle.qd_doc.proofs.Names.{Bare, Block, Characters, ClassOrEnd, ConductorNumber, Document, EndWord, Form, Given, IfSome, Lexeme, List, NoToken, None, Ok, Option, What, WithCharacters, Word, [], add-one, after_characters, ap, arith, blocks_of, characters_of, cond, document_of, drop, drop-take, ending, expected, exponents_end, first_refusal, fold, fold-append, front_runs, get_or, get_or-drop, inl, inr, is_conductor, is_end, kind_after, length, length-drop, length-take-le, map, missing, number_at, part_of, phi_of, read, read_blocks, read_characters, read_document, read_end, read_exponents, read_given, read_number, read_numbers, read_order, read_roots, refl, runs_after, skip, stage_of, suc, sym, take, take_more, text_at, tokens, true, value, what_after, zero, ℕ, ◌*◌, ◌++◌, ◌+◌, ◌-◌, ◌<◌, ◌∙◌, ◌∷◌, ◌≡◌, ◌≤◌}
use Rattle.qd_doc.proofs.Loops.{missing_end, blocks_step}
use Rattle.qd_doc.proofs.Parts.{State, Between, stage_in, blocks_in, whole, kind_next, move}
use Rattle.qd_doc.proofs.Ranges.{conductor_in_table, length-numbers_at}
use Rattle.qd_doc.proofs.Places.{no_lexeme, Reads, Reached, At, reads_bind, reached_fits, drop_here, step, skip_step, end_step, at_start, later, order_step, numbers_step, roots_step, exponents_step}

-- the words of tokens
abbrev pub texts : List Lexeme → List (List ℕ)
texts tokens = map (λ (token : Lexeme). token.text) tokens

-- the conductor of what a document gives is in the table
abbrev pub HasConductor : Option Given → Type 0
HasConductor characters = IfSome characters (λ given. is_conductor given.conductor ≡ true)

-- what reading says of a document by itself
pub record HasShape (document : Document) : Type 0 where
  pub order : (1 ≤ document.order) × (document.order ≤ 60)
  pub table : length document.table ≡ document.order * document.order
  pub roots : (1 ≤ document.roots) × (document.roots ≤ 64)
  pub exponents : length document.exponents ≡ document.order * document.order * document.order
  pub conductor : HasConductor document.characters

module _ (offset : ℕ) (all : List Lexeme) where
  -- a bare document ends
  bare_step : (place : ℕ) (Q : Option Given → Type 0) → At Bare offset all place [] → (first_refusal Bare offset all ≡ None → Q None)
      → Reads Bare offset all (read_characters offset Bare (drop place all)) Q
  unfolding read_characters read_end missing
  bare_step place Q ends on =
      reads_bind Bare offset all (read_end offset (drop place all)) (λ rest. Ok None) Q
      (reads_bind Bare offset all (skip offset EndWord (drop place all)) _ (λ rest. Q None)
      (skip_step Bare offset all EndWord place (place + 1) _ refl refl ends.reached (later Bare offset all place place 0 ends (omega arith) ends.reached.within) (λ r1.
      end_step Bare offset all (place + 1) (λ rest. Q None) r1 (later Bare offset all place (place + 1) 1 ends refl r1.within) on)))

  -- ---- the section of characters

  -- the tokens of the section that stand before a place
  section_before : (place other k : ℕ) → other ≡ place + k → other ≤ length all → ending WithCharacters (take other all) k ≡ after_characters (take k (drop place all))
  section_before place other k e inside =
      let long : length (take other all) - k ≡ place = omega (arith, length-take-le other all inside) in
      ap (λ n. after_characters (drop n (take other all))) long
      ∙ ap (λ n. after_characters (drop place (take n all))) e
      ∙ ap after_characters (drop-take place k all)

  module _ (place : ℕ) (ends : At WithCharacters offset all place []) where
    kind_of : (other k : ℕ) → other ≡ place + k → other ≤ length all → expected WithCharacters (take other all) ≡ after_characters (take k (drop place all))
    kind_of other k e inside = later WithCharacters offset all place other k ends e inside ∙ section_before place other k e inside

    here : (other : ℕ) → other < length all → drop other all ≡ get_or all other no_lexeme ∷ drop (other + 1) all
    here other within = drop_here WithCharacters offset all other within

    stands-word : expected WithCharacters (take place all) ≡ Word Characters
    stands-word = kind_of place 0 (omega arith) ends.reached.within

    stands-conductor : place + 1 ≤ length all → expected WithCharacters (take (place + 1) all) ≡ ConductorNumber
    stands-conductor inside =
        kind_of (place + 1) 1 refl inside ∙ ap (λ left. after_characters (take 1 left)) (here place (omega arith))

    phi : ℕ
    phi = phi_of (number_at all (place + 1))

    -- what may stand after j tokens of the blocks
    folded : ℕ → What
    folded j = fold (λ kind (token : Lexeme). what_after phi kind token.text) ClassOrEnd (take j (drop (place + 2) all))

    stands : (other j : ℕ) → other ≡ place + suc (suc j) → other ≤ length all → expected WithCharacters (take other all) ≡ folded j
    unfolding folded phi
    stands other j e inside =
        let two : place + 1 + 1 ≡ place + 2 = omega arith in
        let left : drop place all ≡ get_or all place no_lexeme ∷ get_or all (place + 1) no_lexeme ∷ drop (place + 2) all =
        here place (omega arith) ∙ ap (λ more. get_or all place no_lexeme ∷ more) (here (place + 1) (omega arith) ∙ ap (λ n. get_or all (place + 1) no_lexeme ∷ drop n all) two) in
        kind_of other (suc (suc j)) e inside ∙ ap (λ tokens. after_characters (take (suc (suc j)) tokens)) left

    folded-more : (other j : ℕ) → other ≡ place + suc (suc j) → other < length all → folded (suc j) ≡ what_after phi (folded j) (text_at all other)
    unfolding folded
    folded-more other j e within =
        let rest = drop (place + 2) all in
        let listed : j < length rest = omega (arith, length-drop (place + 2) all) in
        let same : place + 2 + j ≡ other = omega (arith, e) in
        let more : take (suc j) rest ≡ take j rest ++ get_or all other no_lexeme ∷ [] =
        ap (λ n. take n rest) (sym (add-one j)) ∙ take_more rest j no_lexeme listed
        ∙ ap (λ (token : Lexeme). take j rest ++ token ∷ []) (get_or-drop (place + 2) all j no_lexeme ∙ ap (λ n. get_or all n no_lexeme) same) in
        ap (fold (λ kind (token : Lexeme). what_after phi kind token.text) ClassOrEnd) more
        ∙ fold-append (λ kind (token : Lexeme). what_after phi kind token.text) ClassOrEnd (take j rest) (get_or all other no_lexeme ∷ [])

    -- what reading the blocks gives, and that nothing may stand after it
    abbrev Found : State → ℕ → ((List Block × List Lexeme) → Type 0) → Type 0
    Found s at Q = (end : ℕ) → Reached WithCharacters offset all end → (end ≤ length all → expected WithCharacters (take end all) ≡ NoToken) → Q (whole phi s (texts (drop at all)), drop end all)

    walk : (fuel at j : ℕ) (s : State) (Q : (List Block × List Lexeme) → Type 0) → length all < at + fuel → at ≡ place + suc (suc j) → Reached WithCharacters offset all at
        → folded j ≡ kind_after phi (stage_in s) → Found s at Q
        → Reads WithCharacters offset all (read_blocks offset phi (stage_in s) (blocks_in s) (drop at all)) Q
    walk zero at j s Q enough e reached kind found = absurd (omega (arith, reached.within))
    walk (suc fuel) at j s Q enough e reached kind found =
        let stage = stage_in s in
        let text = text_at all at in
        let part = part_of phi stage text in
        let fits : expected WithCharacters (take at all) ≡ kind_after phi stage = stands at j e reached.within ∙ kind in
        rw (blocks_step offset phi stage (blocks_in s) (drop at all))
        (reads_bind WithCharacters offset all (read (part_of phi stage) offset (kind_after phi stage) (drop at all)) _ Q
        (step WithCharacters offset all (part_of phi stage) (kind_after phi stage) at (at + 1) _ (missing_end offset phi stage) refl reached fits (λ now.
        let within : at < length all = omega (arith, now.within) in
        let words : texts (drop at all) ≡ text ∷ texts (drop (at + 1) all) = ap texts (here at within) in
        let next : folded (suc j) ≡ cond (is_end part) NoToken (kind_after phi (stage_of part)) =
        folded-more at j e within ∙ ap (λ k. what_after phi k text) kind ∙ kind_next phi stage text in
        elim (move phi (get_or all at no_lexeme).start text s (reached_fits WithCharacters offset all at (kind_after phi stage) now fits)) [
          | inl ends ↦
              rw ends.end (rw (words, ends.all (texts (drop (at + 1) all))) at
              (found (at + 1) now (λ inside. stands (at + 1) (suc j) (omega (arith, e)) inside ∙ rw ends.end at next)))
          | inr goes ↦
              rw (goes.no_end, goes.stage, goes.blocks)
              (walk fuel (at + 1) (suc j) goes.next Q (omega arith) (omega (arith, e)) now (rw (goes.no_end, goes.stage) at next)
              (λ end reached_end nothing. rw (words, goes.same (texts (drop (at + 1) all))) at (found end reached_end nothing)))
        ])))

    characters_step : (Q : (Given × List Lexeme) → Type 0)
        → ((end : ℕ) → Reached WithCharacters offset all end → (end ≤ length all → expected WithCharacters (take end all) ≡ NoToken)
        → is_conductor (number_at all (place + 1)) ≡ true
        → Q (record { conductor = number_at all (place + 1); blocks = blocks_of phi (texts (drop (place + 2) all)) }, drop end all))
        → Reads WithCharacters offset all (read_given offset (drop place all)) Q
    unfolding read_given whole folded phi missing
    characters_step Q on =
        reads_bind WithCharacters offset all (skip offset (Word Characters) (drop place all)) _ Q
        (skip_step WithCharacters offset all (Word Characters) place (place + 1) _ refl refl ends.reached stands-word (λ r1.
        reads_bind WithCharacters offset all (read_number offset ConductorNumber (drop (place + 1) all)) _ Q
        (step WithCharacters offset all value ConductorNumber (place + 1) (place + 2) _ refl (omega arith) r1 (stands-conductor r1.within) (λ r2.
        reads_bind WithCharacters offset all (read_blocks offset phi (stage_in (Between [])) [] (drop (place + 2) all)) _ Q
        (walk (suc (length all)) (place + 2) 0 (Between []) _ (omega arith) (omega arith) r2 refl (λ end reached nothing.
        let two : place + 2 ≡ place + 1 + 1 = omega arith in
        on end reached nothing (conductor_in_table (get_or all (place + 1) no_lexeme)
        (reached_fits WithCharacters offset all (place + 1) ConductorNumber (rw two at r2) (stands-conductor r1.within)))))))))

  -- what follows the exponents of a document with characters
  given_step : (place : ℕ) (Q : Option Given → Type 0) → At WithCharacters offset all place []
      → (first_refusal WithCharacters offset all ≡ None → HasConductor (characters_of WithCharacters all) → Q (characters_of WithCharacters all))
      → Reads WithCharacters offset all (read_characters offset WithCharacters (drop place all)) Q
  unfolding read_characters characters_of phi
  given_step place Q ends on =
      reads_bind WithCharacters offset all (read_given offset (drop place all)) _ Q
      (characters_step place ends _ (λ end reached nothing entry.
      let is_end : exponents_end all ≡ place = omega (arith, ends.is_end) in
      reads_bind WithCharacters offset all (skip offset NoToken (drop end all)) _ Q
      (end_step WithCharacters offset all end _ reached (nothing reached.within) (λ none. (rw is_end at (on none)) entry))))

  last_step : (form : Form) (place : ℕ) (Q : Option Given → Type 0) → At form offset all place []
      → (first_refusal form offset all ≡ None → HasConductor (characters_of form all) → Q (characters_of form all))
      → Reads form offset all (read_characters offset form (drop place all)) Q
  unfolding characters_of
  last_step Bare place Q ends on = bare_step place Q ends (λ none. on none tt)
  last_step WithCharacters place Q ends on = given_step place Q ends on

  -- what reading a whole document gives
  pub record IsWhole (form : Form) (document : Document) : Type 0 where
    pub lawful : first_refusal form offset all ≡ None
    pub contents : document ≡ document_of form all
    pub shape : HasShape document

  -- reading a whole document finds the first refusal, or the document that its tokens spell
  pub reads_document : (form : Form) → Reads form offset all (read_document offset form all) (IsWhole form)
  unfolding read_document document_of runs_after front_runs
  reads_document form =
      let Q : Document → Type 0 = IsWhole form in
      let n = number_at all 3 in
      reads_bind form offset all (read_order offset all) _ Q (order_step form offset all _ _ (at_start form offset all) (λ at_table order.
      reads_bind form offset all (read_numbers offset (n * n) (drop 5 all)) _ Q (numbers_step form offset all (n * n) 5 (n * n + 5) _ _ (omega arith) at_table (λ at_roots.
      reads_bind form offset all (read_roots offset (drop (n * n + 5) all)) _ Q (roots_step form offset all (n * n + 5) (n * n + 6) (n * n + 8) _ _ (omega arith) (omega arith) at_roots (λ at_form roots.
      reads_bind form offset all (read_exponents offset n (drop (n * n + 8) all)) _ Q (exponents_step form offset all n _ at_form (λ place ends cube.
      reads_bind form offset all (read_characters offset form (drop place all)) _ Q (last_step form place _ ends (λ none conductor.
      record {
        lawful = none;
        contents = refl;
        shape = record { order = order; table = length-numbers_at all 5 (n * n) (omega (arith, at_roots.reached.within)); roots = roots; exponents = cube; conductor = conductor };
      }))))))))))
