use Rattle.centre_algebra.proofs.CharacterLists.{centre_splits}
use Rattle.centre_algebra.proofs.splitting_law.Goals as goal

pub returns : goal.returns
returns c = record { splits = centre_splits c.args.ring.now }
