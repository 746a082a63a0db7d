-- Reading token after token, for the contracts of the private steps: each answers what it read and the
-- tokens that are left, or a refusal. What a document is stands in Grammar and Contents; that reading
-- finds it is a theorem.
use Rattle.std.specs.Prelude.{◌≡◌, ℕ, zero, suc, ◌+◌, ◌*◌, if◌then◌else◌, List, [], ◌∷◌, length, replicate, codes, slice_set, Option, Some, None, Result, Ok, Err, ◌≤◌, ◌<◌, ◌^◌}
use Rattle.qd_text.specs.Tokens.{Lexeme}
use Rattle.qd_text.specs.Numbers.{value}
use Rattle.qd_text.specs.declared.expected.Expected.TheVariants.{Qdouble, One, Order, Table, Roots, Omega, Characters}
use Rattle.qd_doc.specs.Kinds.{What, Word, Natural, OrderNumber, RootsNumber, FormWord, ElementBelow, EndWord, NoToken, ConductorNumber, is_word, refusal, missing}
use Rattle.cyclotomic.specs.Conductors.{phi_of}
use Rattle.qd_doc.specs.Blocks.{Block}
pub use Rattle.qd_doc.specs.Section.{unless}
use Rattle.qd_doc.specs.Section.{kind_after, part_of, stage_of, is_end, with_part}
use Rattle.qd_doc.specs.declared.part.Stage.{Stage}
use Rattle.qd_doc.specs.declared.part.Stage.TheVariants as stages
use Rattle.qd_doc.specs.declared.document.Form.{Form}
use Rattle.qd_doc.specs.declared.document.Form.TheVariants.{Bare, WithCharacters}
use Rattle.qd_doc.specs.declared.document.Given.{Given}
use Rattle.qd_doc.specs.declared.listing.Listing.{Listing}
use Rattle.qd_doc.specs.declared.listing.Listing.TheVariants.{Trivial, Dense, Sparse}
use Rattle.qd_doc.specs.declared.document.Document.{Document}
use Rattle.qd_doc.specs.declared.refusal.DocRefusal.{DocRefusal}
use Rattle.qd_doc.specs.declared.refusal.DocRefusal.TheVariants.{Memory}

infixl 10 ◌>>=◌
abbrev pub ◌>>=◌ : {A B : Type 0} → Result A DocRefusal → (A → Result B DocRefusal) → Result B DocRefusal
(Ok x) >>= f = f x
(Err e) >>= f = Err e

-- one token of a kind, seen by `view`, of a text that ends at an offset
unfoldable pub read : {A : Type 0} → (List ℕ → A) → ℕ → What → List Lexeme → Result (A × List Lexeme) DocRefusal
read view offset kind [] = unless (missing kind offset) (view [], [])
read view offset kind (token ∷ rest) = unless (refusal kind token) (view token.text, rest)

-- a word that has to stand here
abbrev pub skip : ℕ → What → List Lexeme → Result (List Lexeme) DocRefusal
skip offset kind left = read (λ text. text) offset kind left >>= λ x. Ok x.1

-- a number that has to stand here
abbrev pub read_number : ℕ → What → List Lexeme → Result (ℕ × List Lexeme) DocRefusal
read_number offset kind left = read value offset kind left

-- so many natural numbers
unfoldable pub read_numbers : ℕ → ℕ → List Lexeme → Result (List ℕ × List Lexeme) DocRefusal
read_numbers offset zero left = Ok ([], left)
read_numbers offset (suc count) left = do
  number ← read_number offset Natural left
  more ← read_numbers offset count number.1
  Ok (number.0 ∷ more.0, more.1)

-- up to the table: the order
unfoldable pub read_order : ℕ → List Lexeme → Result (ℕ × List Lexeme) DocRefusal
read_order offset left = do
  after_name ← skip offset (Word Qdouble) left
  after_version ← skip offset (Word One) after_name
  after_word ← skip offset (Word Order) after_version
  number ← read_number offset OrderNumber after_word
  after_table ← skip offset (Word Table) number.1
  Ok (number.0, after_table)

-- from the table to the exponents: the number of roots
unfoldable pub read_roots : ℕ → List Lexeme → Result (ℕ × List Lexeme) DocRefusal
read_roots offset left = do
  after_word ← skip offset (Word Roots) left
  number ← read_number offset RootsNumber after_word
  after_omega ← skip offset (Word Omega) number.1
  Ok (number.0, after_omega)

-- the form of the exponents by its word
abbrev pub listing_of : List ℕ → Listing
listing_of text = if is_word text (codes "dense") then Dense else if is_word text (codes "sparse") then Sparse else Trivial

-- an entry of a sparse list: its place and its exponent
unfoldable pub read_entry : ℕ → ℕ → List Lexeme → Result ((ℕ × ℕ) × List Lexeme) DocRefusal
read_entry offset n left = do
  x ← read_number offset (ElementBelow n) left
  y ← read_number offset (ElementBelow n) x.1
  z ← read_number offset (ElementBelow n) y.1
  exponent ← read_number offset Natural z.1
  Ok (((x.0 * n + y.0) * n + z.0, exponent.0), exponent.1)

-- so many entries of a sparse list, put into a list of exponents
unfoldable pub read_entries : ℕ → ℕ → ℕ → List ℕ → List Lexeme → Result (List ℕ × List Lexeme) DocRefusal
read_entries offset n zero exponents left = Ok (exponents, left)
read_entries offset n (suc count) exponents left = do
  entry ← read_entry offset n left
  read_entries offset n count (slice_set exponents entry.0.0 entry.0.1) entry.1

-- the exponents of a sparse list
unfoldable pub read_sparse : ℕ → ℕ → List Lexeme → Result (List ℕ × List Lexeme) DocRefusal
read_sparse offset n left = do
  count ← read_number offset Natural left
  read_entries offset n count.0 (replicate (n * n * n) 0) count.1

-- the exponents after the word for their form
abbrev pub read_listing : ℕ → ℕ → Listing → List Lexeme → Result (List ℕ × List Lexeme) DocRefusal
read_listing offset n Trivial left = Ok (replicate (n * n * n) 0, left)
read_listing offset n Dense left = read_numbers offset (n * n * n) left
read_listing offset n Sparse left = read_sparse offset n left

-- the exponents
unfoldable pub read_exponents : ℕ → ℕ → List Lexeme → Result (List ℕ × List Lexeme) DocRefusal
read_exponents offset n left = do
  listing ← read listing_of offset FormWord left
  read_listing offset n listing.0 listing.1

-- the end
unfoldable pub read_end : ℕ → List Lexeme → Result (List Lexeme) DocRefusal
read_end offset left = do
  after_end ← skip offset EndWord left
  skip offset NoToken after_end

-- the parts that are left, put into the blocks so far, up to the end
unfoldable pub read_blocks : ℕ → ℕ → Stage → List Block → List Lexeme → Result (List Block × List Lexeme) DocRefusal
read_blocks offset phi stage blocks [] = unless (missing (kind_after phi stage) offset) (blocks, [])
read_blocks offset phi stage blocks (token ∷ rest) = do
  part ← unless (refusal (kind_after phi stage) token) (part_of phi stage token.text)
  if is_end part then Ok (blocks, rest) else read_blocks offset phi (stage_of part) (with_part part blocks) rest

-- the section of characters
unfoldable pub read_given : ℕ → List Lexeme → Result (Given × List Lexeme) DocRefusal
read_given offset left = do
  after_word ← skip offset (Word Characters) left
  conductor ← read_number offset ConductorNumber after_word
  blocks ← read_blocks offset (phi_of conductor.0) stages.Conductor [] conductor.1
  Ok (record { conductor = conductor.0; blocks = blocks.0 }, blocks.1)

-- what follows the exponents
unfoldable pub read_characters : ℕ → Form → List Lexeme → Result (Option Given) DocRefusal
read_characters offset Bare left = do
  rest ← read_end offset left
  Ok None
read_characters offset WithCharacters left = do
  given ← read_given offset left
  rest ← skip offset NoToken given.1
  Ok (Some given.0)

-- a whole document
unfoldable pub read_document : ℕ → Form → List Lexeme → Result Document DocRefusal
read_document offset form left = do
  n ← read_order offset left
  table ← read_numbers offset (n.0 * n.0) n.1
  roots ← read_roots offset table.1
  exponents ← read_exponents offset n.0 roots.1
  characters ← read_characters offset form exponents.1
  Ok (record { order = n.0; table = table.0; roots = roots.0; exponents = exponents.0; characters = characters })

-- a refusal that a step returned is what reading gives, unless there was no memory
abbrev pub Fails : {Y : Type 0} → DocRefusal → Result Y DocRefusal → Type 0
Fails Memory read = Unit {0}
Fails refusal read = read ≡ Err refusal

-- what a step returned, seen by `view`, is what reading gives, unless there was no memory
abbrev pub Gives : {X Y : Type 0} → (X → Y) → Result X DocRefusal → Result Y DocRefusal → Type 0
Gives view (Ok x) read = read ≡ Ok (view x)
Gives view (Err refusal) read = Fails refusal read

-- an offset of a text whose offsets fit in 32 bits
pub record IsOffset (bytes : List ℕ) (offset : ℕ) : Type 0 where
  pub within : offset ≤ length bytes
  pub few : length bytes < 2 ^ 32
