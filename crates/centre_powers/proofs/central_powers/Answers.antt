use Rattle.centre_powers.proofs.FixedPowers.{residues_central_powers}
use Rattle.centre_powers.proofs.central_powers.Goals as goal

pub returns : goal.returns
returns c =
    let ring = c.args.ring.now in
    record { fixed = residues_central_powers ring.q ring.listed ring.conductor ring.root ring.least ring.entry ring.apart }
