-- The text of a certificate is a document, which is read as the certificate.
use Rattle.qd_engine.proofs.Names.{◌≡◌, ℕ, ◌+◌, ◌*◌, ◌/◌, ◌%◌, ◌<◌, ◌^◌, List, [], ◌∷◌, length, map, get_or, All, None, Ok, refl, sym, ap, ap₂, subst, ◌∙◌, arith, range_with_len, All-map, Table, IsGroup, representatives, representative_at_is, Cochain, reduced, SimplesOver, AreSimples, tokens, Block, stop_of, IsValueOf, IsInRange, document_of, slice_index, div-lt_iff_lt-mul, mod-eq_of_lt, get_or_default, All-head, All-tail, length-range_with_len, get_or-range_with_len, IsSmall, IsCochain, cochain_of, certified_block, certified_blocks, certificate_document, certificate_text}
use Rattle.group_table.proofs.Sentences.{laws_of, product_below}
use Rattle.qd_doc.specs.Canonical.{IsNarrow, reduced_document}
use Rattle.qd_doc.specs.declared.document.Form.TheVariants.{WithCharacters}
use Rattle.qd_doc.proofs.RoundTrip.{printed_is_read}

-- a list whose numbers a function leaves as they are
map_same : (f : ℕ → ℕ) (xs : List ℕ) → All (λ x. f x ≡ x) xs → map f xs ≡ xs
map_same f [] same = refl
map_same f (x ∷ xs) same = ap₂ (λ y ys. y ∷ ys) (All-head (λ x. f x ≡ x) x xs same) (map_same f xs (All-tail (λ x. f x ≡ x) x xs same))

-- the entries of a group's table are its elements
entries_narrow : (t : Table) → IsGroup t → IsSmall t.order → All (λ number. number < 2 ^ 32) t.entries
entries_narrow t group small = λ i d below.
    let n = t.order in
    let square = group.square in
    let row : i / n < n = (div-lt_iff_lt-mul (omega (arith, small.from_one))).1 (omega arith) in
    let here : slice_index t.entries (i / n * n + i % n) < n = product_below t (i / n) (i % n) (laws_of t group.lawful).entries row (omega arith) in
    let place : i / n * n + i % n ≡ i = omega arith in
    let same : get_or t.entries i d ≡ slice_index t.entries (i / n * n + i % n) = get_or_default t.entries i d 0 below ∙ ap (slice_index t.entries) (sym place) in
    rw same (omega (arith, small.to_sixty))

-- exponents of a cochain are below the number of roots
pub exponents_reduced : (w : Cochain) → IsCochain w → reduced w.roots w.exponents ≡ w.exponents
exponents_reduced w cochain =
    map_same (λ v. v % w.roots) w.exponents
    (λ i d below.
    let here = cochain.below i below in
    let same = get_or_default w.exponents i d 0 below in
    mod-eq_of_lt (rw same here))

module _ (k : ℕ) (s : SimplesOver) (S : AreSimples k s) (values : All (λ (b : Block). All (λ row. All (IsValueOf k) row) b.rows) (certified_blocks k s)) where
  abbrev w : Cochain
  w = s.cocycle

  in_range : IsInRange (certificate_document k s)
  in_range =
      let cochain = S.cocycle.cochain in
      record {
        order = (cochain.small.from_one, cochain.small.to_sixty);
        table = cochain.group.square;
        roots = (cochain.number.from_one, cochain.number.to_most);
        exponents = cochain.cube;
        characters = record { conductor = S.conductor; values = values };
      }

  classes_narrow : All (λ (b : Block). b.representative < 2 ^ 32) (certified_blocks k s)
  unfolding certified_blocks
  classes_narrow =
      let n = length (representatives w.group) in
      All-map (λ (b : Block). b.representative < 2 ^ 32) (certified_block k s) (range_with_len 0 n)
      (λ place c below.
      let place_below : place < n = subst (λ m. place < m) (length-range_with_len 0 n) below in
      let is : get_or (range_with_len 0 n) place c ≡ place = get_or-range_with_len 0 n place c place_below ∙ omega arith in
      let here = (representative_at_is w.group S.cocycle.cochain.group place place_below).below in
      let few = S.cocycle.cochain.small.to_sixty in
      rw is (omega arith))

  narrow : IsNarrow (certificate_document k s)
  narrow = record { table = entries_narrow w.group S.cocycle.cochain.group S.cocycle.cochain.small; classes = classes_narrow }

  reduced_is : reduced_document (certificate_document k s) ≡ certificate_document k s
  reduced_is = ap (λ exponents. record (certificate_document k s) { exponents = exponents }) (exponents_reduced w S.cocycle.cochain)

  pub certificate_is_document : stop_of WithCharacters (certificate_text k s) ≡ None
  certificate_is_document = (printed_is_read (certificate_document k s) in_range narrow).0

  pub certificate_is_read : document_of WithCharacters (tokens (certificate_text k s)) ≡ certificate_document k s
  certificate_is_read =
      (printed_is_read (certificate_document k s) in_range narrow).1 (Ok (document_of WithCharacters (tokens (certificate_text k s)))) (certificate_is_document, refl)
      ∙ reduced_is

  pub certificate_exponents : cochain_of w.group w.roots w.exponents ≡ w
  certificate_exponents = ap (λ exponents. record w { exponents = exponents }) (exponents_reduced w S.cocycle.cochain)
