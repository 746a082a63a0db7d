use Rattle.central_ext.proofs.Names.{◌∙◌}
use Rattle.central_ext.proofs.Carriers.{places_suffice}
use Rattle.central_ext.proofs.conjugacy.lifts_conjugate.Goals as goal

pub returns : goal.returns
returns c = record {
  conjugate =
      c.some_carries.ensures.some
      ∙ places_suffice c.args.twist.now c.some_carries.ensures.twist (record { place = c.args.p; root = c.args.i }) (record { place = c.args.p; root = c.args.j })
      (record { place_below = c.requires.p_below; root_below = c.requires.i_below });
}
