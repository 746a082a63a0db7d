-- Reading one after the other, as a loop does.
use Rattle.qd_doc.proofs.Names.{Block, DocRefusal, Err, Fails, Lexeme, List, Memory, Natural, None, Ok, Option, Part, Result, Section, Some, Stage, Syntax, What, [], ap, append-nil, append_assoc, arith, cond, expected, is_end, kind_after, missing, part_of, read, read_blocks, read_entries, read_entry, read_number, read_numbers, refl, refusal, slice_set, stage_of, suc, sym, unless, wanted, with_part, ℕ, ◌++◌, ◌+◌, ◌-◌, ◌<◌, ◌>>=◌, ◌∙◌, ◌∷◌, ◌≡◌, ◌≤◌}
use Rattle.qd_doc.specs.declared.part.Stage.TheVariants as stages
use Rattle.qd_doc.specs.declared.refusal.DocRefusal.TheVariants.{Wide, Order, Roots}

-- ---- where a loop ends

module _ {X Y : Type 0} {total : Result Y DocRefusal} (read : Result X DocRefusal) (next : X → Result Y DocRefusal) (so_far : total ≡ (read >>= next)) where
  -- what fails makes what stands on it fail
  pub fails_on : (e : DocRefusal) → Fails e read → Fails e total
  fails_on (Syntax offset expected) failed = so_far ∙ ap (λ r. r >>= next) failed
  fails_on (Wide offset) failed = so_far ∙ ap (λ r. r >>= next) failed
  fails_on (Section offset) failed = so_far ∙ ap (λ r. r >>= next) failed
  fails_on (Order number) failed = so_far ∙ ap (λ r. r >>= next) failed
  fails_on (Roots number) failed = so_far ∙ ap (λ r. r >>= next) failed
  fails_on Memory failed = tt

  -- what is read is followed by the rest
  pub goes_on : (x : X) → read ≡ Ok x → next x ≡ total
  goes_on x said = sym (so_far ∙ ap (λ r. r >>= next) said)

-- what was read before, and what is still read
abbrev pub with_front : List ℕ → Result (List ℕ × List Lexeme) DocRefusal → Result (List ℕ × List Lexeme) DocRefusal
with_front front read = read >>= λ x. Ok (front ++ x.0, x.1)

regroup : (front : List ℕ) (number : Result (ℕ × List Lexeme) DocRefusal) (reads : List Lexeme → Result (List ℕ × List Lexeme) DocRefusal)
    → with_front front (number >>= λ n. (reads n.1 >>= λ x. Ok (n.0 ∷ x.0, x.1))) ≡ (number >>= λ n. with_front (front ++ n.0 ∷ []) (reads n.1))
regroup front (Ok n) reads = by (reads n.1)
  where
    by : (r : Result (List ℕ × List Lexeme) DocRefusal) → with_front front (r >>= λ x. Ok (n.0 ∷ x.0, x.1)) ≡ with_front (front ++ n.0 ∷ []) r
    by (Ok x) = simp append_assoc
    by (Err f) = refl
regroup front (Err f) reads = refl

module _ (offset count i : ℕ) (left : List Lexeme) where
  one_more : i < count → count - i ≡ suc (count - (i + 1))
  one_more listed = omega arith

  none_more : count ≤ i → count - i ≡ 0
  none_more all = omega arith

  pub numbers_more : (front : List ℕ) → i < count → with_front front (read_numbers offset (count - i) left)
      ≡ (read_number offset Natural left >>= λ n. with_front (front ++ n.0 ∷ []) (read_numbers offset (count - (i + 1)) n.1))
  unfolding read_numbers
  numbers_more front listed = rw (one_more listed) (regroup front (read_number offset Natural left) (read_numbers offset (count - (i + 1))))

  pub numbers_end : (front : List ℕ) → count ≤ i → with_front front (read_numbers offset (count - i) left) ≡ Ok (front, left)
  unfolding read_numbers
  numbers_end front all = rw (none_more all, append-nil front) refl

  pub entries_more : (n : ℕ) (exponents : List ℕ) → i < count → read_entries offset n (count - i) exponents left
      ≡ (read_entry offset n left >>= λ entry. read_entries offset n (count - (i + 1)) (slice_set exponents entry.0.0 entry.0.1) entry.1)
  unfolding read_entries
  entries_more n exponents listed = rw (one_more listed) refl

  pub entries_end : (n : ℕ) (exponents : List ℕ) → count ≤ i → read_entries offset n (count - i) exponents left ≡ Ok (exponents, left)
  unfolding read_entries
  entries_end n exponents all = rw (none_more all) refl

-- ---- the section of characters

pub missing_end : (offset phi : ℕ) (stage : Stage) → missing (kind_after phi stage) offset ≡ Some (Syntax offset (wanted (kind_after phi stage)))
unfolding missing
missing_end offset phi stages.Conductor = refl
missing_end offset phi stages.Class = refl
missing_end offset phi stages.Number = refl
missing_end offset phi stages.Row = refl

through : {X Y : Type 0} (o : Option DocRefusal) (x : X) (f : X → Y) → unless o (f x) ≡ (unless o x >>= λ y. Ok (f y))
through None x f = refl
through (Some r) x f = refl

through_any : {P X Y : Type 0} (o : Option DocRefusal) (p : P) (x : X) (f : P → Result Y DocRefusal) (g : X → Result Y DocRefusal) → f p ≡ g x → (unless o p >>= f) ≡ (unless o x >>= g)
through_any None p x f g e = e
through_any (Some r) p x f g e = refl

-- one token, seen in another way
pub viewed : {A B : Type 0} (f : A → B) (view : List ℕ → A) (offset : ℕ) (kind : What) (left : List Lexeme) → read (λ text. f (view text)) offset kind left ≡ (read view offset kind left >>= λ x. Ok (f x.0, x.1))
unfolding read
viewed f view offset kind [] = through (missing kind offset) (view [], []) (λ x. (f x.0, x.1))
viewed f view offset kind (token ∷ rest) = through (refusal kind token) (view token.text, rest) (λ x. (f x.0, x.1))

-- a token that was read
pub record IsToken {A : Type 0} (view : List ℕ → A) (kind : What) (x : A) : Type 0 where
  pub start : ℕ
  pub text : List ℕ
  pub fits : refusal kind (record { start = start; text = text }) ≡ None
  pub said : view text ≡ x

token_by : {A : Type 0} (view : List ℕ → A) (kind : What) (token : Lexeme) (rest after : List Lexeme) (x : A) (o : Option DocRefusal) → refusal kind token ≡ o → unless {A = A × List Lexeme} o (view token.text, rest) ≡ Ok (x, after) → IsToken view kind x
token_by {A = A} view kind token rest after x None fits e =
    record { start = token.start; text = token.text; fits = fits; said = ap (λ (r : Result (A × List Lexeme) DocRefusal). elim r [ Ok y ↦ y.0 | Err f ↦ x ]) e }
token_by view kind token rest after x (Some r) fits e = absurd (cc e)

module _ (offset phi : ℕ) where
  -- the part that is read, and then the rest
  pub blocks_step : (stage : Stage) (blocks : List Block) (left : List Lexeme) → read_blocks offset phi stage blocks left
      ≡ (read (part_of phi stage) offset (kind_after phi stage) left >>= λ x. cond (is_end x.0) (Ok (blocks, x.1)) (read_blocks offset phi (stage_of x.0) (with_part x.0 blocks) x.1))
  unfolding read_blocks read
  blocks_step stage blocks [] = rw (missing_end offset phi stage) refl
  blocks_step stage blocks (token ∷ rest) =
      through_any (refusal (kind_after phi stage) token) (part_of phi stage token.text) (part_of phi stage token.text, rest)
      (λ part. cond (is_end part) (Ok (blocks, rest)) (read_blocks offset phi (stage_of part) (with_part part blocks) rest))
      (λ x. cond (is_end x.0) (Ok (blocks, x.1)) (read_blocks offset phi (stage_of x.0) (with_part x.0 blocks) x.1))
      refl

  pub part_read : (stage : Stage) (left after : List Lexeme) (part : Part) → read (part_of phi stage) offset (kind_after phi stage) left ≡ Ok (part, after) → IsToken (part_of phi stage) (kind_after phi stage) part
  unfolding read
  part_read stage [] after part h = absurd (let f : Err (Syntax offset (wanted (kind_after phi stage))) ≡ Ok (part, after) = rw (missing_end offset phi stage) at h in cc)
  part_read stage (token ∷ rest) after part h = token_by (part_of phi stage) (kind_after phi stage) token rest after part (refusal (kind_after phi stage) token) refl h
