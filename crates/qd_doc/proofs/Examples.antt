-- The definition of a document, computed on small texts.
use Rattle.qd_doc.proofs.Names.{Bare, Characters, Conductor, DocRefusal, Element, End, Form, List, None, Nothing, Number, Option, Section, Some, Syntax, Value, WithCharacters, [], blanked, block, blocks_of, characters_of, codes, coefficients_of, conductors, entry_runs, expected, exponent_runs, exponents_end, exponents_of, first, first_refusal, front_runs, is_conductor, is_small, kind_at, last_below, map, missing, negsuc, number_of, padded, phi_of, pieces, pos, refl, refusal, runs, runs_after, size_of, sparse_exponents, stop_of, take, term_after_sign, term_of, tokens, value_of, ℕ, ℤ, ◌++◌, ◌∷◌, ◌≡◌}
use Rattle.qd_text.specs.declared.expected.Expected.TheVariants.{Order as Order_word}
use Rattle.qd_doc.specs.declared.refusal.DocRefusal.TheVariants.{Wide, Order}

-- texts, and the refusal of each as a document of a form
abbrev Stops : Form → List (List ℕ × Option DocRefusal) → Type 0
Stops form rows = map (λ row. stop_of form row.0) rows ≡ map (λ row. row.1) rows

-- the group of order 2 with the one non-trivial cocycle
abbrev semion : List ℕ
semion = codes "qdouble 1 order 2 table 0 1 1 0 roots 2 omega dense 0 0 0 0 0 0 0 1 end "

bare : Stops Bare (
    (semion, None) ∷
    (take 66 semion, Some (Syntax 66 Number)) ∷
    (take 68 semion, Some (Syntax 68 End)) ∷
    (semion ++ codes "end", Some (Syntax 72 Nothing)) ∷
    (codes "qdouble 1 #", Some (Syntax 11 Order_word)) ∷
    (codes "qdouble 1 order 1 table 0 roots 1 omega sparse 4", Some (Syntax 48 Number)) ∷
    (codes "qdouble 1 order 1 table 0 roots 1 omega sparse 1 0 1 0 5 end", Some (Syntax 51 Element)) ∷
    (codes "qdouble 1 order 4294967296", Some (Wide 16)) ∷
    (codes "qdouble 1 order 61", Some (Order 61)) ∷
    (codes "qdouble 1 order 1 table 0 roots 1 omega trivial characters 4", Some (Section 48)) ∷
    []
    )
unfolding stop_of first_refusal first expected kind_at runs_after exponent_runs entry_runs front_runs refusal missing blanked runs number_of
bare = refl

-- a later entry of a place replaces an earlier one
sparse : exponents_of (tokens (codes "qdouble 1 order 2 table 0 1 1 0 roots 1 omega sparse 2 1 1 1 5 1 1 1 7 end")) 2 ≡ 0 ∷ 0 ∷ 0 ∷ 0 ∷ 0 ∷ 0 ∷ 0 ∷ 7 ∷ []
unfolding exponents_of sparse_exponents last_below blanked runs
sparse = refl

-- ---- documents with characters

-- the text of a document of the group of order 2, with this text after its exponents
abbrev with_section : List ℕ → List ℕ
with_section section = codes "qdouble 1 order 2 table 0 1 1 0 roots 2 omega dense 0 0 0 0 0 0 0 1 " ++ section

-- its characters, and those of the group without a cocycle
abbrev cert : List ℕ
cert = with_section (codes "characters 4 class 0 row 1 1 row 1 -1 class 1 row 1 -1z1 row 1 1z1 end ")

abbrev zcert : List ℕ
zcert = codes "qdouble 1 order 2 table 0 1 1 0 roots 1 omega trivial characters 4 class 0 row 1 1 row 1 -1 class 1 row 1 -1 row 1 1 end "

-- the value a + b x
abbrev value_with : ℤ → ℤ → List ℤ
value_with a b = padded 2 (a ∷ b ∷ [])

section_in_bare : stop_of Bare cert ≡ Some (Section 68)
unfolding stop_of first_refusal first expected kind_at runs_after exponent_runs entry_runs front_runs refusal missing blanked runs number_of
section_in_bare = refl

with_characters : Stops WithCharacters (
    (cert, None) ∷
    (zcert, None) ∷
    (take 68 cert, Some (Syntax 68 Characters)) ∷
    (with_section (codes "end"), Some (Syntax 68 Characters)) ∷
    (with_section (codes "characters 5 end"), Some (Syntax 79 Conductor)) ∷
    (with_section (codes "characters x end"), Some (Syntax 79 Number)) ∷
    (with_section (codes "characters 4294967296 end"), Some (Wide 79)) ∷
    (with_section (codes "characters 8 end"), None) ∷
    -- 2^120, after the first row of class 0
    (with_section (codes "characters 4 class 0 row 1 1 row 1 1329227995784915872903807060280344576 end"), Some (Wide 103)) ∷
    -- 2^120 z9 has a power that is not below phi(4)
    (with_section (codes "characters 4 class 0 row 1329227995784915872903807060280344576z9 end"), Some (Syntax 93 Value)) ∷
    (with_section (codes "characters 4 class 0 row +1 end"), Some (Syntax 93 End)) ∷
    (with_section (codes "characters 4 class 0 row -x end"), Some (Syntax 93 Value)) ∷
    (with_section (codes "characters 4 class 0 row 01 end"), Some (Syntax 93 Value)) ∷
    (with_section (codes "characters 4 class 0 5 end"), Some (Syntax 89 End)) ∷
    (with_section (codes "characters 4 row 1 end"), Some (Syntax 81 End)) ∷
    (with_section (codes "characters 4 class 7 row class 7 end end"), Some (Syntax 105 Nothing)) ∷
    (with_section (codes "characters 4 class 0 row 1 "), Some (Syntax 95 End)) ∷
    []
    )
unfolding stop_of first_refusal first expected kind_at runs_after exponent_runs front_runs refusal missing blanked runs number_of conductors is_conductor phi_of value_of coefficients_of term_of term_after_sign is_small size_of
with_characters = refl

cert_says : characters_of WithCharacters (tokens cert) ≡ Some (record {
  conductor = 4;
  blocks =
      block 0 ((value_with (pos 1) (pos 0) ∷ value_with (pos 1) (pos 0) ∷ []) ∷ (value_with (pos 1) (pos 0) ∷ value_with (negsuc 0) (pos 0) ∷ []) ∷ [])
      ∷ block 1 ((value_with (pos 1) (pos 0) ∷ value_with (pos 0) (negsuc 0) ∷ []) ∷ (value_with (pos 1) (pos 0) ∷ value_with (pos 0) (pos 1) ∷ []) ∷ []) ∷ [];
})
unfolding characters_of exponents_end blocks_of pieces runs_after exponent_runs front_runs blanked runs conductors phi_of value_of coefficients_of term_of term_after_sign is_small size_of
cert_says = refl

zcert_says : characters_of WithCharacters (tokens zcert) ≡ Some (record {
  conductor = 4;
  blocks =
      block 0 ((value_with (pos 1) (pos 0) ∷ value_with (pos 1) (pos 0) ∷ []) ∷ (value_with (pos 1) (pos 0) ∷ value_with (negsuc 0) (pos 0) ∷ []) ∷ [])
      ∷ block 1 ((value_with (pos 1) (pos 0) ∷ value_with (negsuc 0) (pos 0) ∷ []) ∷ (value_with (pos 1) (pos 0) ∷ value_with (pos 1) (pos 0) ∷ []) ∷ []) ∷ [];
})
unfolding characters_of exponents_end blocks_of pieces runs_after exponent_runs front_runs blanked runs conductors phi_of value_of coefficients_of term_of term_after_sign is_small size_of
zcert_says = refl
