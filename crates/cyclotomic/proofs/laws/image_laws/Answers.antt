use Rattle.cyclotomic.proofs.Names.{cyclotomic}
use Rattle.cyclotomic.proofs.Images.{image-sum}
use Rattle.cyclotomic.proofs.Inverses.{conjugation_prime}
use Rattle.cyclotomic.proofs.laws.image_laws.Goals as goal

pub returns-clause-sum : goal.returns-clause-sum
returns-clause-sum c = λ k. image-sum (cyclotomic k)

pub returns-clause-conjugate : goal.returns-clause-conjugate
returns-clause-conjugate c = conjugation_prime
