use Rattle.dixon_split.proofs.Names.{◌<◌, eqb, modulus_positive, size}
use Rattle.classes.specs.Conjugacy.{conjugate}
use Rattle.dixon_split.proofs.Multiples.{least_below}
use Rattle.dixon_split.proofs.Refining.{some_at}
use Rattle.dixon_split.proofs.class_sums.class_sum_at.Goals as goal

pub kappa-requires-clause-c_below : goal.kappa-requires-clause-c_below
kappa-requires-clause-c_below c =
    some_at c.transporter.result c.in-Some.c (λ k. k < size c.args.twist.now) c.in-Some.is
    (least_below (size c.args.twist.now) (λ k. eqb (conjugate c.args.twist.now.group k c.args.p) c.args.y) c.transporter.result c.transporter.ensures.least)

pub returns-in-None-clause-below : goal.returns-in-None-clause-below
returns-in-None-clause-below c = modulus_positive c.args.ring.now.q c.args.ring.now.listed
