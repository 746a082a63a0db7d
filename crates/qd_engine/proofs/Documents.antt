-- The group and the cocycle of a document that passes every test, and the rows that a document has.
use Rattle.qd_engine.proofs.Names.{◌≡◌, ℕ, ◌%◌, ◌<◌, ◌≤◌, List, length, get_or, Option, Some, None, refl, sym, subst, ◌∙◌, get_or-map, length-map, mod-lt, group_fault, IsGroup, Cochain, reduced, cocycle_fault, IsCocycle, Lexeme, tokens, stop_of, document_of, Form, made_is_cocycle, sample_is_cocycle, form_by, form_for, form_of, bare_document, document_for, document_in, table_of, exponents_of, HasInput, HasRowsFor, HasRowsOf, RowSource, Stated, Lifted, RowReport, Input, Command}
use Rattle.qd_doc.specs.Contents.{characters_of}
use Rattle.qd_doc.proofs.Shapes.{document_in_range}
use Rattle.qd_engine.specs.declared.command.Input.TheVariants.{Read, Made, Sampled}
use Rattle.qd_engine.proofs.Subjects.{bare_exponents}

-- every reduced exponent is below the number of roots
reduced_below : (roots : ℕ) (exponents : List ℕ) (i : ℕ) → 1 ≤ roots → i < length (reduced roots exponents) → get_or (reduced roots exponents) i 0 < roots
reduced_below roots exponents i some within =
    let inside : i < length exponents = rw (length-map exponents (λ v. v % roots)) at within in
    rw (get_or-map (λ v. v % roots) exponents i 0 0 inside) (mod-lt (get_or exponents i 0) some)

module _ (form : Form) (bytes : List ℕ) where
  group_for : (input : Input) → HasInput input form bytes → group_fault (table_of (document_for input form bytes)) ≡ None → IsGroup (table_of (document_for input form bytes))
  group_for Read document lawful = record { square = (document_in_range form bytes document).table; lawful = lawful }
  group_for (Made maker) accepted lawful = (made_is_cocycle maker accepted).cochain.group
  group_for (Sampled s) has lawful = (sample_is_cocycle s).cochain.group

  read_cocycle : (document : stop_of form bytes ≡ None) → group_fault (table_of (document_of form (tokens bytes))) ≡ None
      → cocycle_fault (exponents_of (document_of form (tokens bytes))) ≡ None → IsCocycle (exponents_of (document_of form (tokens bytes)))
  read_cocycle document group lawful =
      let shape = document_in_range form bytes document in
      record {
        cochain = record {
          group = group_for Read document group;
          small = record { from_one = shape.order.0; to_sixty = shape.order.1 };
          number = record { from_one = shape.roots.0; to_most = shape.roots.1 };
          cube = length-map _ _ ∙ shape.exponents;
          below = λ i within. reduced_below _ _ i shape.roots.0 within;
        };
        lawful = lawful;
      }

  -- a cocycle that is made is that of its document
  bare_cocycle : (w : Cochain) → IsCocycle w → IsCocycle (exponents_of (bare_document w))
  bare_cocycle w cocycle = subst IsCocycle (sym (bare_exponents w cocycle)) cocycle

  cocycle_for : (input : Input) → HasInput input form bytes → group_fault (table_of (document_for input form bytes)) ≡ None
      → cocycle_fault (exponents_of (document_for input form bytes)) ≡ None → IsCocycle (exponents_of (document_for input form bytes))
  cocycle_for Read document group lawful = read_cocycle document group lawful
  cocycle_for (Made maker) accepted group lawful = bare_cocycle _ (made_is_cocycle maker accepted)
  cocycle_for (Sampled s) has group lawful = bare_cocycle _ (sample_is_cocycle s)

module _ (command : Command) (bytes : List ℕ) (has : HasInput command.input (form_of command) bytes) where
  pub document_group : group_fault (table_of (document_in command bytes)) ≡ None → IsGroup (table_of (document_in command bytes))
  document_group lawful = group_for (form_of command) bytes command.input has lawful

  pub document_cocycle : group_fault (table_of (document_in command bytes)) ≡ None → cocycle_fault (exponents_of (document_in command bytes)) ≡ None
      → IsCocycle (exponents_of (document_in command bytes))
  document_cocycle group lawful = cocycle_for (form_of command) bytes command.input has group lawful

-- a document has the rows that its form is for
rows_had : (all : List Lexeme) (source : RowSource) → HasRowsFor source (document_of (form_by source) all).characters
unfolding document_of characters_of
rows_had all Stated = refl
rows_had all (Lifted q) = tt

rows_had_for : (all : List Lexeme) (rows : Option RowReport) → HasRowsOf rows (document_of (form_for rows) all).characters
rows_had_for all None = tt
rows_had_for all (Some report) = rows_had all report.source

pub has_rows : (command : Command) (bytes : List ℕ) → HasRowsOf command.rows (document_of (form_of command) (tokens bytes)).characters
has_rows command bytes = rows_had_for (tokens bytes) command.rows
