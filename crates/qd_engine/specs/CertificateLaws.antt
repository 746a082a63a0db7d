-- What `verify` makes of a certificate.
use Rattle.std.specs.Prelude.{ℕ, ◌≤◌, List, [], ◌∷◌, length, codes}
use Rattle.qd_io.specs.declared.reading.TheConstants.{INPUT_LIMIT}
use Rattle.qd_engine.specs.Words.{certificate}
use Rattle.qd_engine.specs.Report.{report_in}
use Rattle.qd_engine.specs.Causes.{IsAccepted}
use Rattle.qd_engine.specs.Acceptable.{IsAcceptable}

-- what `certificate` reports on an input that it accepts, where that is short enough to be read, `verify` accepts, and no sum of it
-- overflows
abbrev pub CertificateIsAcceptable : Type 0
CertificateIsAcceptable =
    (q : ℕ) (bytes : List ℕ) → IsAccepted (certificate q) bytes → length (report_in (certificate q) bytes) ≤ INPUT_LIMIT
    → IsAcceptable (codes "verify" ∷ []) (report_in (certificate q) bytes)
