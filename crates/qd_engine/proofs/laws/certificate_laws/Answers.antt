use Rattle.qd_engine.proofs.CertificateLaws.{certificate_is_acceptable}
use Rattle.qd_engine.proofs.laws.certificate_laws.Goals as goal

pub returns : goal.returns
returns c = record { acceptable = certificate_is_acceptable }
