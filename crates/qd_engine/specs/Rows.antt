-- The rows that the program has at hand, by their source.
use Rattle.std.specs.Prelude.{◌≡◌, ℕ, ◌<◌, List, [], ◌∷◌, ◌++◌, Option, Some, None, Result, ⊤}
use Rattle.cochain.specs.Cochain.{Cochain}
use Rattle.root_tables.specs.RootRows.{HasRootRows}
use Rattle.transport.specs.Simples.{SimplesOver, count}
use Rattle.transport.specs.Headline.{IsFusionRule}
use Rattle.fusion_web.specs.Entries.{WebEntries, count_of}
use Rattle.fusion.specs.Numbers.{HoldsFusionNumbers}
use Rattle.qd_doc.specs.Blocks.{Block}
use Rattle.qd_doc.specs.declared.document.Given.{Given}
use Rattle.data_print.specs.declared.cause.Cause.{Cause}
use Rattle.qd_steps.specs.Matched.{IsMatched, HaveValuesOf}
use Rattle.qd_steps.specs.Tables.{tables_cause, simples_over}
use Rattle.qd_steps.specs.ByModulus.{lifted_blocks, modulus_cause}
use Rattle.qd_engine.specs.Documents.{conductor_of}
use Rattle.qd_engine.specs.Sources.{blocks_of}
use Rattle.qd_engine.specs.Report.{row_part_text, parts_text}
use Rattle.qd_engine.specs.Tests.{first_of_all, source_tests, numbers_test, LateReport}
use Rattle.qd_engine.specs.Follows.{Follows}
use Rattle.qd_engine.specs.declared.stop.Stop.{Stop}
use Rattle.qd_engine.specs.declared.command.RowPart.{RowPart}
use Rattle.qd_engine.specs.declared.command.RowSource.{RowSource}
use Rattle.qd_engine.specs.declared.command.RowSource.TheVariants as sources
use Rattle.qd_engine.specs.declared.rows.Rows.{Rows}
use Rattle.qd_engine.specs.declared.rows.Rows.TheVariants.{Stated, Lifted}

-- their source
abbrev pub source_of : Rows → RowSource
source_of (Stated blocks) = sources.Stated
source_of (Lifted ring) = sources.Lifted ring.q

-- the rows themselves
abbrev pub blocks_in : Cochain → Rows → List Block
blocks_in w (Stated blocks) = blocks.now
blocks_in w (Lifted ring) = lifted_blocks ring w

-- why they, or their tables, are refused
abbrev pub cause_in : ℕ → Cochain → Rows → Option Cause
cause_in k w (Stated blocks) = tables_cause w k blocks.now
cause_in k w (Lifted ring) = modulus_cause ring w

-- the field, where there is one, is for the conductor k
abbrev pub IsOver : ℕ → Rows → Type 0
IsOver k (Stated blocks) = ⊤
IsOver k (Lifted ring) = ring.conductor ≡ k

-- they are such as the simples of conductor k are made of: stated rows match the classes and have values of k; a field that rows
-- are lifted by is one for k, over the order of the group
abbrev pub Serve : ℕ → Cochain → Rows → Type 0
Serve k w (Stated blocks) =
    IsMatched w.group blocks.now × HaveValuesOf k blocks.now
Serve k w (Lifted ring) = (ring.conductor ≡ k) × (w.group.order < ring.q)

-- the tables of the simples that they give have values that are sums of roots of unity, where they are lifted
abbrev pub AreRooted : ℕ → SimplesOver → Rows → Type 0
AreRooted k s (Stated blocks) = ⊤
AreRooted k s (Lifted ring) = HasRootRows k s

-- why some fusion number is wanting, where one of the parts asks for them of lifted rows
abbrev pub numbers_cause : ℕ → SimplesOver → Rows → List RowPart → Option Cause
numbers_cause k s (Stated blocks) parts = None
numbers_cause k s (Lifted ring) parts = numbers_test k s parts

-- why there is no report on the rows with these parts
abbrev pub rows_cause : ℕ → Cochain → Rows → List RowPart → Option Cause
rows_cause k w rows parts =
    first_of_all (cause_in k w rows ∷ numbers_cause k (simples_over w (blocks_in w rows)) rows parts ∷ [])

-- the report on rows with these parts was added at the end of a text, by what refuses the rows
abbrev pub AddsParts : ℕ → Cochain → Rows → List RowPart → List ℕ → List ℕ → Result (Unit {0}) Stop → Type 0
AddsParts k w rows parts old new result =
    let s = simples_over w (blocks_in w rows) in
    Follows (rows_cause k w rows parts) (LateReport (source_of rows) k s parts)
    (λ done. new ≡ old ++ parts_text (row_part_text (source_of rows) k s) parts) result

-- the same of the rows of a source, by its tests
abbrev pub AddsRows : RowSource → Cochain → Given → List RowPart → List ℕ → List ℕ → Result (Unit {0}) Stop → Type 0
AddsRows source w given parts old new result =
    let s = simples_over w (blocks_of source w given) in
    Follows (first_of_all (source_tests source w given parts)) (LateReport source (conductor_of w) s parts)
    (λ done. new ≡ old ++ parts_text (row_part_text source (conductor_of w) s) parts) result

-- the web has the fusion numbers of the simples
pub record IsWebOf (k : ℕ) (s : SimplesOver) (web : WebEntries) : Type 0 where
  pub simples : web.simples ≡ count k s
  pub numbers : HoldsFusionNumbers k s (count_of web)
  pub rule : IsFusionRule k s (count_of web)

-- there is such a web
abbrev pub HoldsNumbers : ℕ → SimplesOver → Option WebEntries → Type 0
HoldsNumbers k s None = ⊥
HoldsNumbers k s (Some web) = IsWebOf k s web

-- there is one where the rows are lifted, and else none
abbrev pub HasWeb : ℕ → SimplesOver → Rows → Option WebEntries → Type 0
HasWeb k s (Stated blocks) web = web ≡ None
HasWeb k s (Lifted ring) web = HoldsNumbers k s web
