use Rattle.central_ext.proofs.Names.{some_root, sym}
use Rattle.central_ext.proofs.PairLaws.{conjugate_is}
use Rattle.central_ext.proofs.conjugacy.carried.Goals as goal

pub returns-clause-carried : goal.returns-clause-carried
returns-clause-carried c =
    let twist = c.modulus.ensures.twist in
    rw (c.conjugate.ensures.conjugate, c.kappa.ensures.kappa, c.modulus.ensures.modulus, c.group.ensures.group)
    (sym (conjugate_is c.args.twist.now twist (record { place = c.args.c; root = 0 }) c.args.a
    (record { place_below = c.requires.c_below; root_below = some_root c.args.twist.now twist }) c.requires.a))
