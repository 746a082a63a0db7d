-- The report of a command: its parts, one after the other.
use Rattle.std.specs.Prelude.{ℕ, ◌*◌, List, [], ◌++◌, map, codes, Option, Some, None, unwrap_or}
use Rattle.std.specs.List.{flat_map}
use Rattle.std.specs.Fmt.{decimal}
use Rattle.cochain.specs.Cochain.{Cochain}
use Rattle.qd_doc.specs.declared.document.Document.{Document}
use Rattle.qd_doc.specs.declared.document.Given.{Given}
use Rattle.twisted.specs.Regular.{rank}
use Rattle.transport.specs.Simples.{SimplesOver, count}
use Rattle.modular_st.specs.SMatrices.{s_front}
use Rattle.prime_field.specs.Moduli.{least_root}
use Rattle.data_print.specs.Text.{◌⧺◌, first_lines}
use Rattle.data_print.specs.Head.{head_of}
use Rattle.data_print.specs.ClassLines.{classes_text}
use Rattle.data_print.specs.SimpleLines.{simples_text}
use Rattle.data_print.specs.SLines.{s_head, s_line}
use Rattle.data_print.specs.FusionLines.{fusion_text}
use Rattle.data_print.specs.IndicatorLines.{indicator_line}
use Rattle.cyclotomic.specs.CyclotomicRing.{CyclotomicValue}
use Rattle.fusion.specs.Numbers.{fusion_number}
use Rattle.indicators.specs.Indicators.{indicator_sum}
use Rattle.root_fusion.specs.IndicatorLists.{dimensions, twists, numbers_into}
use Rattle.qd_steps.specs.Tables.{simples_over}
use Rattle.qd_doc.specs.Canonical.{canonical_text}
use Rattle.qd_steps.specs.ClassTwists.{class_twists}
use Rattle.qd_engine.specs.Summary.{sample_line}
use Rattle.qd_engine.specs.Documents.{bare_document, document_in, exponents_of, given_in, conductor_of}
use Rattle.qd_engine.specs.Sources.{blocks_of}
use Rattle.qd_engine.specs.Certificate.{certificate_text}
use Rattle.qd_engine.specs.declared.command.Part.{Part}
use Rattle.qd_engine.specs.declared.command.Part.TheVariants as front_parts
use Rattle.qd_engine.specs.declared.command.RowPart.{RowPart}
use Rattle.qd_engine.specs.declared.command.RowPart.TheVariants as row_parts
use Rattle.qd_engine.specs.declared.command.RowSource.{RowSource}
use Rattle.qd_engine.specs.declared.command.RowSource.TheVariants.{Stated, Lifted}
use Rattle.qd_engine.specs.declared.command.RowReport.{RowReport}
use Rattle.qd_engine.specs.declared.command.Command.{Command}

-- the ranks of the twisted centralisers of all classes, in order
unfoldable pub class_ranks : Cochain → List ℕ
class_ranks w = map rank (class_twists w)

-- the line that every report ends with
abbrev pub end_line : List ℕ
end_line = codes "end\n"

-- the line of the conductor
abbrev pub conductor_line : ℕ → List ℕ
conductor_line k = codes "conductor " ⧺ decimal k ⧺ codes "\n"

-- the line of the modulus q, with the least root modulo q of the cyclotomic polynomial of the conductor
abbrev pub modulus_line : ℕ → ℕ → List ℕ
modulus_line q k = codes "modulus " ⧺ decimal q ⧺ codes " root " ⧺ decimal (unwrap_or (least_root q k) 0) ⧺ codes "\n"

-- that of the modulus of a source of rows, where it has one
abbrev pub modulus_text : RowSource → ℕ → List ℕ
modulus_text Stated k = []
modulus_text (Lifted q) k = modulus_line q k

-- the lines of the matrix S times the order of the group, a row for each simple
unfoldable pub s_lines : (k : ℕ) → SimplesOver → List ℕ
s_lines k s = first_lines (λ i. s_head s.cocycle.group.order i ⧺ s_line i (s_front k s i (count k s))) (count k s)

-- a part of a report that needs no rows
abbrev pub part_text : Cochain → Part → List ℕ
part_text w front_parts.Blank = []
part_text w front_parts.Head = head_of w
part_text w front_parts.Classes = classes_text w.group (class_ranks w)
part_text w front_parts.Document = canonical_text (bare_document w)
part_text w front_parts.End = end_line

-- the lines of the fusion numbers
abbrev pub numbers_text : (k : ℕ) → SimplesOver → List ℕ
numbers_text k s = fusion_text (count k s) (fusion_number k s)

-- the heading of the indicators of order m, over the square of the order n of the group
abbrev pub indicators_head : ℕ → ℕ → List ℕ
indicators_head n m = codes "indicators " ⧺ decimal m ⧺ codes " over " ⧺ decimal (n * n) ⧺ codes "\n"

-- the indicator of order m of the simple l, times that square (Bantay 1997; Ng, Schauenburg 2007)
abbrev pub indicator_of : (k : ℕ) → SimplesOver → ℕ → ℕ → CyclotomicValue k
indicator_of k s m l = (indicator_sum k (numbers_into k s (fusion_number k s) l) (dimensions k s) (twists k s) m).value

-- the lines of the indicators of order m
abbrev pub indicators_text : (k : ℕ) → SimplesOver → ℕ → List ℕ
indicators_text k s m =
    indicators_head s.cocycle.group.order m ⧺ first_lines (λ l. indicator_line l (indicator_of k s m l)) (count k s)

-- the line of a sample whose rows a source gives, where they are lifted
abbrev pub summary_text : RowSource → (k : ℕ) → SimplesOver → ℕ → List ℕ
summary_text Stated k s number = []
summary_text (Lifted q) k s number = sample_line k s q number

-- a text that only a report on lifted rows has
abbrev pub where_lifted : RowSource → List ℕ → List ℕ
where_lifted Stated text = []
where_lifted (Lifted q) text = text

-- a part of a report on the simples that the rows of a source give
abbrev pub row_part_text : RowSource → (k : ℕ) → SimplesOver → RowPart → List ℕ
row_part_text source k s row_parts.Blank = []
row_part_text source k s row_parts.Conductor = conductor_line k
row_part_text source k s row_parts.Modulus = modulus_text source k
row_part_text source k s row_parts.Simples = simples_text k s
row_part_text source k s row_parts.S = s_lines k s
row_part_text source k s row_parts.Fusion = where_lifted source (numbers_text k s)
row_part_text source k s (row_parts.Indicators m) = where_lifted source (indicators_text k s m)
row_part_text source k s (row_parts.Summary number) = summary_text source k s number
row_part_text source k s row_parts.Document = certificate_text k s
row_part_text source k s row_parts.End = end_line

-- parts one after the other
unfoldable pub parts_text : {A : Type 0} → (A → List ℕ) → List A → List ℕ
parts_text text parts = flat_map text parts

-- what a report says of rows, where the command reports on them
abbrev pub rows_text : Cochain → Given → Option RowReport → List ℕ
rows_text w given None = []
rows_text w given (Some report) =
    parts_text (row_part_text report.source (conductor_of w) (simples_over w (blocks_of report.source w given))) report.parts

-- the report of a command on a cocycle and the rows that are given
abbrev pub cocycle_report : Command → Cochain → Given → List ℕ
cocycle_report command w given = parts_text (part_text w) command.parts ++ rows_text w given command.rows

-- the same on a document
abbrev pub report_of : Command → Document → List ℕ
report_of command document = cocycle_report command (exponents_of document) (given_in document)

abbrev pub report_in : Command → List ℕ → List ℕ
report_in command bytes = report_of command (document_in command bytes)
