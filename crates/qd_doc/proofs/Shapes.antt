-- What is read has the shape of a document: its numbers are in their ranges, and its lists have their lengths.
use Rattle.qd_doc.proofs.Names.{All, All-map, Bare, Block, DocRefusal, Document, Err, Form, IfSome, IsGivenInRange, IsInRange, IsRead, IsValueOf, Lexeme, List, None, Ok, Plain, Result, Some, ValueFault, WithCharacters, [], arith, block_of, blocks_of, characters_of, codes, coefficients, document_of, drop, drop-replicate, eq-eqb, exponents_end, get_or, is_array, is_conductor, is_nought, length, list_all, map, nought_small, number_at, phi_of, pieces, plain_or_zeros, pos, read, read_document, refl, replicate, stop_of, subst, suc, sym, text, tokens, true, value_of, words_before, zero, ℕ, ℤ, ◌+◌, ◌-◌, ◌∙◌, ◌∷◌, ◌≡◌}
use Rattle.qd_doc.proofs.Entries.{few_coefficients}
use Rattle.qd_doc.proofs.ValueWords.{value_read}
use Rattle.qd_doc.proofs.Places.{Reads}
use Rattle.qd_doc.proofs.Sections.{HasConductor, HasShape, IsWhole, reads_document}

shape_of : (form : Form) (bytes : List ℕ) (r : Result Document DocRefusal) → Reads form (length bytes) (tokens bytes) r (IsWhole (length bytes) (tokens bytes) form)
    → stop_of form bytes ≡ None → HasShape (document_of form (tokens bytes))
unfolding stop_of
shape_of form bytes (Ok document) read lawful = subst HasShape read.contents read.shape
shape_of form bytes (Err stop) read lawful = absurd (let wrong : None ≡ Some stop = sym lawful ∙ read in cc)

-- ---- values

noughts : (n : ℕ) → list_all is_nought (replicate n (pos 0)) ≡ true
noughts zero = refl
noughts (suc n) = noughts n

array_by : (k : ℕ) (cs : List ℤ) → length cs ≡ 42 → drop (phi_of k) cs ≡ replicate (42 - phi_of k) (pos 0) → is_array k cs ≡ true
unfolding is_array
array_by k cs count ends = rw (eq-eqb (length cs) 42 count, ends) (noughts (42 - phi_of k))

module _ (k : ℕ) (entry : is_conductor k ≡ true) where
  value_by : (text : List ℕ) (r : Result Plain ValueFault) → IsRead text (phi_of k) r → IsValueOf k (plain_or_zeros r)
  value_by text (Ok p) read = (array_by k p.coefficients read.0.count read.0.ends, read.1)
  value_by text (Err fault) read = (array_by k (replicate 42 (pos 0)) refl (drop-replicate (phi_of k) 42 (pos 0)), nought_small)

  is_value : (text : List ℕ) → IsValueOf k (coefficients (phi_of k) text)
  is_value text = value_by text (value_of (phi_of k) text) (value_read (phi_of k) text (few_coefficients k entry))

  row_values : (row : List (List ℕ)) → All (IsValueOf k) (map (coefficients (phi_of k)) row)
  row_values row = All-map (IsValueOf k) (coefficients (phi_of k)) row (λ i d within. is_value (get_or row i d))

  block_values : (words : List (List ℕ)) → All (λ row. All (IsValueOf k) row) (block_of (phi_of k) words).rows
  block_values [] = λ i d within. absurd (omega arith)
  block_values (number ∷ words) =
      let rows = pieces (codes "row") words in
      All-map (λ row. All (IsValueOf k) row) (λ row. map (coefficients (phi_of k)) row) rows (λ i d within. row_values (get_or rows i d))

  blocks_values : (words : List (List ℕ)) → All (λ (block : Block). All (λ row. All (IsValueOf k) row) block.rows) (blocks_of (phi_of k) words)
  unfolding blocks_of
  blocks_values words =
      let blocks = pieces (codes "class") (words_before (codes "end") words) in
      All-map (λ (block : Block). All (λ row. All (IsValueOf k) row) block.rows) (block_of (phi_of k)) blocks (λ i d within. block_values (get_or blocks i d))

characters_in_range : (form : Form) (all : List Lexeme) → HasConductor (characters_of form all) → IfSome (characters_of form all) IsGivenInRange
unfolding characters_of
characters_in_range Bare all entry = tt
characters_in_range WithCharacters all entry = record {
  conductor = entry;
  values = blocks_values (number_at all (exponents_end all + 1)) entry (map (λ (token : Lexeme). token.text) (drop (exponents_end all + 2) all));
}

-- what a document says is in the ranges of the format
pub document_in_range : (form : Form) (bytes : List ℕ) → stop_of form bytes ≡ None → IsInRange (document_of form (tokens bytes))
unfolding document_of
document_in_range form bytes lawful =
    let shape = shape_of form bytes (read_document (length bytes) form (tokens bytes)) (reads_document (length bytes) (tokens bytes) form) lawful in
    record {
      order = shape.order;
      table = shape.table;
      roots = shape.roots;
      exponents = shape.exponents;
      characters = characters_in_range form (tokens bytes) shape.conductor;
    }
