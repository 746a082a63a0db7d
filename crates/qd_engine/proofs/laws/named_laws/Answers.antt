use Rattle.qd_engine.proofs.Names.{made_is_cocycle, sample_is_cocycle}
use Rattle.qd_engine.proofs.Subjects.{bare_exponents}
use Rattle.qd_engine.proofs.laws.named_laws.Goals as goal

pub returns-clause-made : goal.returns-clause-made
returns-clause-made c = λ maker bytes none. record { lawful = made_is_cocycle maker none; is = bare_exponents _ (made_is_cocycle maker none) }

pub returns-clause-sample : goal.returns-clause-sample
returns-clause-sample c = λ s bytes. record { lawful = sample_is_cocycle s; is = bare_exponents _ (sample_is_cocycle s) }
