-- Nothing comes late of rows that are lifted: no numerator of S overflows.
use Rattle.qd_engine.proofs.Names.{◌≡◌, ℕ, List, true, false, Result, Ok, Err, sym, ◌∙◌, IfErr, HasRootRows, root_simples_fit, SimplesOver, AreSimples, Cause, source_of, AreRooted, LatePart, LateIn, LateReport, StopsLate, RowPart, Rows, Stop}
use Rattle.qd_engine.specs.declared.command.RowPart.TheVariants as row_parts
use Rattle.qd_engine.specs.declared.rows.Rows.TheVariants.{Stated, Lifted}
use Rattle.qd_engine.specs.declared.stop.Stop.TheVariants as stops

module _ (k : ℕ) (s : SimplesOver) (good : AreSimples k s) where
  pub part_late : HasRootRows k s → (part : RowPart) (cause : Cause) → LatePart k s part cause → ⊥
  part_late roots row_parts.S cause (site, is, over) =
      let wrong : true ≡ false = sym (root_simples_fit k s good roots site.i site.j over.i_below over.j_below) ∙ over.overflows in cc
  part_late roots part cause late = absurd late

  report_late : (rows : Rows) (parts : List RowPart) (cause : Cause) → AreRooted k s rows → LateIn k s parts cause → LateReport (source_of rows) k s parts cause
  report_late (Stated blocks) parts cause roots late = late
  report_late (Lifted ring) parts cause roots (i, part, at, late) = part_late roots part cause late

  stop_late : (rows : Rows) (parts : List RowPart) (stop : Stop) → AreRooted k s rows → StopsLate (LateIn k s parts) stop → StopsLate (LateReport (source_of rows) k s parts) stop
  stop_late rows parts (stops.Refused cause) roots late = report_late rows parts cause roots late
  stop_late rows parts stops.Memory roots late = tt

  -- from the parts to the report
  pub stops_late : (rows : Rows) (parts : List RowPart) (result : Result (Unit {0}) Stop) → AreRooted k s rows → IfErr result (StopsLate (LateIn k s parts))
      → IfErr result (StopsLate (LateReport (source_of rows) k s parts))
  stops_late rows parts (Ok done) roots late = tt
  stops_late rows parts (Err stop) roots late = stop_late rows parts stop roots late
