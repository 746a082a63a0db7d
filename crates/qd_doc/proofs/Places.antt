-- Reading token after token finds the first refusal, and the contents by their places.
use Rattle.qd_doc.proofs.Names.{Bool, Dense, DocRefusal, ElementBelow, Err, Expected, Form, FormWord, Lexeme, List, Natural, NoToken, None, Nothing, Ok, Omega, One, Option, OrderNumber, Qdouble, Result, RootsNumber, Run, Some, Sparse, Syntax, Table, Trivial, What, Word, [], add-one, arith, codes, cond, drop, drop-cons, drop_all, ending, entry_runs, expected, exponent_runs, exponents_end, exponents_of, false, first, first_found, first_none-at, first_none-step, first_refusal, get_or, inl, inr, is_word, judgement, kind_at, length, listing_of, missing, number_at, numbers_at, once, read, read_entries, read_entry, read_exponents, read_listing, read_number, read_numbers, read_order, read_roots, read_sparse, refl, refusal, refusal_at, runs, runs_after, skip, slice_get, slice_get-get_or, slice_get_past, sparse_exponents, subst, suc, sum_by-cons, sym, take, text_at, times, true, unless, value, wanted, zero, ℕ, ◌*◌, ◌+◌, ◌<◌, ◌>>=◌, ◌∙◌, ◌∷◌, ◌≡◌, ◌≤◌, ◌⊎◌}
use Rattle.std.proofs.Math.ListN.{length-replicate}
use Rattle.qd_text.specs.declared.expected.Expected.TheVariants.{Order, Roots}
use Rattle.qd_doc.proofs.Sparse.{place_of, sparse_exponents-suc, sparse_exponents-zero}
use Rattle.qd_doc.proofs.Ranges.{IsBetween, order_in_range, roots_in_range, length-numbers_at, length-sparse_exponents}
use Rattle.qd_doc.proofs.Runs.{total, kind_at-nil, kind_at-within, past_by, kind_at-next, expected_is}

abbrev pub no_lexeme : Lexeme
no_lexeme = record { start = 0; text = [] }

within_or_past : (place n : ℕ) → place ≤ n → (place < n) ⊎ (place ≡ n)
within_or_past place n le = grind arith

-- reading the token at a place is judging it
read_judged : {A : Type 0} (view : List ℕ → A) (offset : ℕ) (kind : What) (all : List Lexeme) (place : ℕ)
    → read view offset kind (drop place all) ≡ unless (judgement kind offset (slice_get all place)) (view (text_at all place), drop (suc place) all)
unfolding read
read_judged view offset kind [] zero = refl
read_judged view offset kind [] (suc place) = refl
read_judged view offset kind (token ∷ all) zero = refl
read_judged view offset kind (token ∷ all) (suc place) = read_judged view offset kind all place

module _ (form : Form) (offset : ℕ) (all : List Lexeme) where
  -- what holds after a reading: a fact of what was read, or its refusal is that of the text
  abbrev pub Reads : {A : Type 0} → Result A DocRefusal → (A → Type 0) → Type 0
  Reads (Ok x) Q = Q x
  Reads (Err r) Q = first_refusal form offset all ≡ Some r

  pub reads_bind : {A B : Type 0} (m : Result A DocRefusal) (f : A → Result B DocRefusal) (Q : B → Type 0) → Reads m (λ x. Reads (f x) Q) → Reads (m >>= f) Q
  reads_bind (Ok x) f Q h = h
  reads_bind (Err r) f Q h = h

  -- no token before this place is refused
  pub record Reached (place : ℕ) : Type 0 where
    pub within : place ≤ length all
    pub clear : first place (refusal_at form offset all) ≡ None

  -- the token at a place
  abbrev pub lexeme_at : ℕ → Lexeme
  lexeme_at place = get_or all place no_lexeme

  pub drop_here : (place : ℕ) → place < length all → drop place all ≡ lexeme_at place ∷ drop (place + 1) all
  drop_here place within = rw (add-one, drop-cons all place no_lexeme) refl

  -- a refusal at a place that was reached is that of the text
  refused : (place : ℕ) (r : DocRefusal) → Reached place → refusal_at form offset all place ≡ Some r → first_refusal form offset all ≡ Some r
  unfolding first_refusal
  refused place r reached here = first_found (length all + 1) place (refusal_at form offset all) r (omega (arith, reached.within)) reached.clear here

  -- the token before a place that was reached fits
  pub reached_fits : (place : ℕ) (kind : What) → Reached (place + 1) → expected form (take place all) ≡ kind → refusal kind (lexeme_at place) ≡ None
  reached_fits place kind reached stands =
      rw (stands, slice_get-get_or all place no_lexeme (omega (arith, reached.within))) at
      (first_none-at (place + 1) place (refusal_at form offset all) reached.clear (omega arith))

  -- a token that is missed where the text ends
  abbrev pub IsMissed : What → Type 0
  IsMissed kind = missing kind offset ≡ Some (Syntax offset (wanted kind))

  -- a token that has to stand at a place
  pub step : {A : Type 0} (view : List ℕ → A) (kind : What) (place next : ℕ) (Q : (A × List Lexeme) → Type 0) → IsMissed kind
      → place + 1 ≡ next → Reached place → expected form (take place all) ≡ kind
      → (Reached next → Q (view (text_at all place), drop next all))
      → Reads (read view offset kind (drop place all)) Q
  step {A} view kind place next Q missed after reached stands on =
      rw (read_judged view offset kind all place) (by (judgement kind offset (slice_get all place)) refl)
    where
      by : (o : Option DocRefusal) → judgement kind offset (slice_get all place) ≡ o → Reads {A = A × List Lexeme} (unless o (view (text_at all place), drop (suc place) all)) Q
      by (Some r) e = refused place r reached (rw stands e)
      by None e =
          let inside : place < length all = elim (within_or_past place (length all) reached.within) [
            | inl within ↦ within
            | inr past ↦ absurd (let no : Some (Syntax offset (wanted kind)) ≡ None = rw (slice_get_past all place (omega arith), missed) at e in cc)
          ] in
          let here : suc place ≡ next = omega arith in
          rw here (on (record { within = omega arith; clear = rw (← after) (first_none-step place (refusal_at form offset all) reached.clear (rw stands e)) }))

  -- that nothing stands at a place
  pub end_step : (place : ℕ) (Q : List Lexeme → Type 0) → Reached place → expected form (take place all) ≡ NoToken
      → (first_refusal form offset all ≡ None → Q [])
      → Reads (skip offset NoToken (drop place all)) Q
  unfolding missing refusal first_refusal
  end_step place Q reached stands on =
      reads_bind (read (λ text. text) offset NoToken (drop place all)) _ Q (rw (read_judged (λ text. text) offset NoToken all place)
      (elim (within_or_past place (length all) reached.within) [
        | inl within ↦
            let found = slice_get-get_or all place no_lexeme within in
            rw found (refused place (Syntax (lexeme_at place).start Nothing) reached (rw (stands, found) refl))
        | inr past ↦
            let none : slice_get all place ≡ None = slice_get_past all place (omega arith) in
            let nothing_left : drop (suc place) all ≡ [] = drop_all (suc place) all (omega arith) in
            rw (none, nothing_left) (on (rw (← past) (first_none-step place (refusal_at form offset all) reached.clear (rw (stands, none) refl))))
      ]))

  -- a word that has to stand at a place
  pub skip_step : (kind : What) (place next : ℕ) (Q : List Lexeme → Type 0) → IsMissed kind
      → place + 1 ≡ next → Reached place → expected form (take place all) ≡ kind → (Reached next → Q (drop next all))
      → Reads (skip offset kind (drop place all)) Q
  skip_step kind place next Q missed after reached stands on =
      reads_bind (read (λ text. text) offset kind (drop place all)) (λ x. Ok x.1) Q
      (step (λ text. text) kind place next (λ x. Q x.1) missed after reached stands on)

  -- ---- run after run

  -- reading came to a place, and these runs are left before the end of the exponents
  pub record At (place : ℕ) (runs : List Run) : Type 0 where
    pub reached : Reached place
    pub rest : (other k : ℕ) → other ≡ place + k → other ≤ length all → expected form (take other all) ≡ kind_at runs (ending form (take other all)) k
    pub is_end : place + total runs ≡ exponents_end all

  pub at_start : At 0 (runs_after all)
  unfolding exponents_end first
  at_start =
      let count : total (runs_after all) ≡ exponents_end all = refl in
      record {
        reached = record { within = omega arith; clear = refl };
        rest = λ other k e within. let same : k ≡ other = omega arith in rw same (expected_is form all other within);
        is_end = omega (arith, count);
      }

  stands : (place count : ℕ) (kind : What) (runs : List Run) → At place (times (suc count) kind ∷ runs) → expected form (take place all) ≡ kind
  stands place count kind runs at =
      at.rest place 0 (omega arith) at.reached.within ∙ kind_at-within (suc count) kind runs (ending form (take place all)) 0 (omega arith)

  -- the token of the first run, where reading came past it
  pub fits : (place : ℕ) (kind : What) (runs : List Run) → At place (once kind ∷ runs) → Reached (place + 1) → refusal kind (lexeme_at place) ≡ None
  fits place kind runs at reached = reached_fits place kind reached (stands place 0 kind runs at)

  at_next : (place next count : ℕ) (kind : What) (runs : List Run) → place + 1 ≡ next → At place (times (suc count) kind ∷ runs) → Reached next → At next (times count kind ∷ runs)
  at_next place next count kind runs after at reached = record {
    reached = reached;
    rest = λ other k e within. at.rest other (suc k) (omega arith) within ∙ kind_at-next count k kind runs (ending form (take other all));
    is_end = omega (arith, at.is_end, sum_by-cons (λ (run : Run). run.count) (times (suc count) kind) runs, sum_by-cons (λ (run : Run). run.count) (times count kind) runs);
  }

  at_past : (place : ℕ) (kind : What) (runs : List Run) → At place (times 0 kind ∷ runs) → At place runs
  at_past place kind runs at = record {
    reached = at.reached;
    rest = λ other k e within. at.rest other k e within ∙ past_by k 0 k kind runs (ending form (take other all)) (omega arith);
    is_end = omega (arith, at.is_end, sum_by-cons (λ (run : Run). run.count) (times 0 kind) runs);
  }

  -- where the exponents end
  pub later : (place other k : ℕ) → At place [] → other ≡ place + k → other ≤ length all → expected form (take other all) ≡ ending form (take other all) k
  later place other k at e inside = at.rest other k e inside ∙ kind_at-nil (ending form (take other all)) k

  at_place : (place other : ℕ) (runs : List Run) → place ≡ other → At place runs → At other runs
  at_place place other runs e at = subst (λ n. At n runs) e at

  run_step : {A : Type 0} (view : List ℕ → A) (kind : What) (place next count : ℕ) (runs : List Run) (Q : (A × List Lexeme) → Type 0) → IsMissed kind
      → place + 1 ≡ next → At place (times (suc count) kind ∷ runs)
      → (At next (times count kind ∷ runs) → Q (view (text_at all place), drop next all))
      → Reads (read view offset kind (drop place all)) Q
  run_step view kind place next count runs Q missed after at on =
      step view kind place next Q missed after at.reached
      (stands place count kind runs at)
      (λ reached. on (at_next place next count kind runs after at reached))

  -- the one token of the first run
  pub once_step : {A : Type 0} (view : List ℕ → A) (kind : What) (place next : ℕ) (runs : List Run) (Q : (A × List Lexeme) → Type 0) → IsMissed kind
      → place + 1 ≡ next → At place (once kind ∷ runs) → (At next runs → Q (view (text_at all place), drop next all))
      → Reads (read view offset kind (drop place all)) Q
  once_step view kind place next runs Q missed after at on =
      run_step view kind place next 0 runs Q missed after at (λ empty. on (at_past next kind runs empty))

  -- the one word of the first run
  pub word_step : (word : Expected) (place next : ℕ) (runs : List Run) (Q : List Lexeme → Type 0)
      → place + 1 ≡ next → At place (once (Word word) ∷ runs) → (At next runs → Q (drop next all)) → Reads (skip offset (Word word) (drop place all)) Q
  unfolding missing
  word_step word place next runs Q after at on =
      reads_bind (read (λ text. text) offset (Word word) (drop place all)) (λ x. Ok x.1) Q
      (once_step (λ text. text) (Word word) place next runs (λ x. Q x.1) refl after at on)

  -- the order
  pub order_step : (runs : List Run) (Q : (ℕ × List Lexeme) → Type 0)
      → At 0 (once (Word Qdouble) ∷ once (Word One) ∷ once (Word Order) ∷ once OrderNumber ∷ once (Word Table) ∷ runs)
      → (At 5 runs → IsBetween 1 60 (number_at all 3) → Q (number_at all 3, drop 5 all)) → Reads (read_order offset all) Q
  unfolding read_order missing
  order_step runs Q at on =
      reads_bind (skip offset (Word Qdouble) all) _ Q (word_step Qdouble 0 1 _ _ refl at (λ at1.
      reads_bind (skip offset (Word One) (drop 1 all)) _ Q (word_step One 1 2 _ _ refl at1 (λ at2.
      reads_bind (skip offset (Word Order) (drop 2 all)) _ Q (word_step Order 2 3 _ _ refl at2 (λ at3.
      reads_bind (read_number offset OrderNumber (drop 3 all)) _ Q (once_step value OrderNumber 3 4 _ _ refl refl at3 (λ at4.
      reads_bind (skip offset (Word Table) (drop 4 all)) _ Q (word_step Table 4 5 runs _ refl at4 (λ at5.
      on at5 (order_in_range (lexeme_at 3) (fits 3 OrderNumber _ at3 at4.reached))))))))))))

  -- so many natural numbers
  pub numbers_step : (count place next : ℕ) (runs : List Run) (Q : (List ℕ × List Lexeme) → Type 0) → place + count ≡ next → At place (times count Natural ∷ runs)
      → (At next runs → Q (numbers_at all place count, drop next all)) → Reads (read_numbers offset count (drop place all)) Q
  unfolding read_numbers missing
  numbers_step zero place next runs Q after at on =
      let e : place ≡ next = omega arith in
      rw e (on (at_place place next runs e (at_past place Natural runs at)))
  numbers_step (suc count) place next runs Q after at on =
      reads_bind (read_number offset Natural (drop place all)) _ Q (run_step value Natural place (place + 1) count runs _ refl refl at (λ at1.
      reads_bind (read_numbers offset count (drop (place + 1) all)) _ Q
      (numbers_step count (place + 1) next runs (λ more. Q (number_at all place ∷ more.0, more.1)) (omega arith) at1 (λ at2.
      let within : place < length all = omega (arith, at1.reached.within) in
      let one : numbers_at all place (suc count) ≡ number_at all place ∷ numbers_at all (place + 1) count = rw (drop_here place within) refl in
      rw one at (on at2)))))

  -- an entry of a sparse list
  entry_step : (n place next : ℕ) (runs : List Run) (Q : ((ℕ × ℕ) × List Lexeme) → Type 0) → place + 4 ≡ next
      → At place (times 3 (ElementBelow n) ∷ once Natural ∷ runs)
      → (At next runs → Q ((place_of all n place, number_at all (place + 3)), drop next all)) → Reads (read_entry offset n (drop place all)) Q
  unfolding read_entry missing
  entry_step n place next runs Q after at on =
      let element = ElementBelow n in
      reads_bind (read_number offset element (drop place all)) _ Q (run_step value element place (place + 1) 2 _ _ refl refl at (λ at1.
      reads_bind (read_number offset element (drop (place + 1) all)) _ Q (run_step value element (place + 1) (place + 2) 1 _ _ refl (omega arith) at1 (λ at2.
      reads_bind (read_number offset element (drop (place + 2) all)) _ Q (once_step value element (place + 2) (place + 3) _ _ refl (omega arith) at2 (λ at3.
      reads_bind (read_number offset Natural (drop (place + 3) all)) _ Q (once_step value Natural (place + 3) next runs _ refl (omega arith) at3 on)))))))

  -- the entries from number i on
  entries_step : (n start count next left i : ℕ) (Q : (List ℕ × List Lexeme) → Type 0) → i + left ≡ count → start + 4 * count ≡ next
      → At (start + 4 * i) (entry_runs n left) → (At next [] → Q (sparse_exponents all n start count, drop next all))
      → Reads (read_entries offset n left (sparse_exponents all n start i) (drop (start + 4 * i) all)) Q
  unfolding read_entries entry_runs
  entries_step n start count next zero i Q all_listed after at on =
      let e : i ≡ count = omega arith in
      let f : start + 4 * i ≡ next = omega arith in
      rw (f, e) (on (at_place (start + 4 * i) next [] f at))
  entries_step n start count next (suc left) i Q all_listed after at on =
      reads_bind (read_entry offset n (drop (start + 4 * i) all)) _ Q (entry_step n (start + 4 * i) (start + 4 * suc i) (entry_runs n left) _ (omega arith) at (λ at4.
      rw (sparse_exponents-suc all n start i) (entries_step n start count next left (suc i) Q (omega arith) after at4 on)))

  -- the exponents, by whether their form is `dense` or `sparse`
  listing_by : (n : ℕ) (dense sparse : Bool) (Q : (List ℕ × List Lexeme) → Type 0)
      → is_word (text_at all (n * n + 8)) (codes "dense") ≡ dense → is_word (text_at all (n * n + 8)) (codes "sparse") ≡ sparse
      → At (n * n + 9) (cond dense (times (n * n * n) Natural ∷ []) (cond sparse (once Natural ∷ entry_runs n (number_at all (n * n + 9))) []))
      → ((place : ℕ) → At place [] → length (exponents_of all n) ≡ n * n * n → Q (exponents_of all n, drop place all))
      → Reads (read_listing offset n (cond dense Dense (cond sparse Sparse Trivial)) (drop (n * n + 9) all)) Q
  unfolding exponents_of read_sparse missing
  listing_by n true sparse Q d s at on =
      numbers_step (n * n * n) (n * n + 9) (n * n + 9 + n * n * n) [] Q refl at (λ end.
      (rw d at (on (n * n + 9 + n * n * n) end)) (length-numbers_at all (n * n + 9) (n * n * n) end.reached.within))
  listing_by n false false Q d s at on = (rw (d, s) at (on (n * n + 9) at)) (length-replicate (n * n * n) 0)
  listing_by n false true Q d s at on =
      let count = number_at all (n * n + 9) in
      let start = n * n + 9 + 1 in
      let none : start + 4 * 0 ≡ start = omega arith in
      reads_bind (read_number offset Natural (drop (n * n + 9) all)) _ Q (once_step value Natural (n * n + 9) start _ _ refl refl at (λ at1.
      let entries = entries_step n start count (start + 4 * count) count 0 Q (omega arith) refl (at_place start (start + 4 * 0) _ (sym none) at1)
      (λ end. (rw (d, s) at (on (start + 4 * count) end)) (length-sparse_exponents all n start count)) in
      rw (sparse_exponents-zero all n start) (rw none at entries)))

  -- all exponents
  pub exponents_step : (n : ℕ) (Q : (List ℕ × List Lexeme) → Type 0)
      → At (n * n + 8) (once FormWord ∷ exponent_runs (text_at all (n * n + 8)) n (number_at all (n * n + 9)))
      → ((place : ℕ) → At place [] → length (exponents_of all n) ≡ n * n * n → Q (exponents_of all n, drop place all))
      → Reads (read_exponents offset n (drop (n * n + 8) all)) Q
  unfolding read_exponents exponent_runs missing
  exponents_step n Q at on =
      let text = text_at all (n * n + 8) in
      reads_bind (read listing_of offset FormWord (drop (n * n + 8) all)) _ Q (once_step listing_of FormWord (n * n + 8) (n * n + 9) _ _ refl (omega arith) at (λ at9.
      listing_by n (is_word text (codes "dense")) (is_word text (codes "sparse")) Q refl refl at9 on))

  -- the number of roots
  pub roots_step : (place number next : ℕ) (runs : List Run) (Q : (ℕ × List Lexeme) → Type 0) → place + 1 ≡ number → number + 2 ≡ next
      → At place (once (Word Roots) ∷ once RootsNumber ∷ once (Word Omega) ∷ runs)
      → (At next runs → IsBetween 1 64 (number_at all number) → Q (number_at all number, drop next all))
      → Reads (read_roots offset (drop place all)) Q
  unfolding read_roots missing
  roots_step place number next runs Q before after at on =
      reads_bind (skip offset (Word Roots) (drop place all)) _ Q (word_step Roots place number _ _ before at (λ at1.
      reads_bind (read_number offset RootsNumber (drop number all)) _ Q (once_step value RootsNumber number (number + 1) _ _ refl refl at1 (λ at2.
      reads_bind (skip offset (Word Omega) (drop (number + 1) all)) _ Q (word_step Omega (number + 1) next runs _ (omega arith) at2 (λ at3.
      on at3 (roots_in_range (lexeme_at number) (fits number RootsNumber _ at1 at2.reached))))))))
