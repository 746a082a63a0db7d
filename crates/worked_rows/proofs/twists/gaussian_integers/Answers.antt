use Rattle.std.proofs.Common.{refl, lit<}
use Rattle.cyclotomic.specs.Conductors.{is_conductor, conductors}
use Rattle.worked_rows.proofs.twists.gaussian_integers.Goals as goal

pub new-requires : goal.new-requires
unfolding is_conductor conductors
new-requires c = (lit< tt, refl)
