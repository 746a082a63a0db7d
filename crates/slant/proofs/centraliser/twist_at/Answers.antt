use Rattle.slant.proofs.Names.{ap, ◌∙◌, table_of}
use Rattle.classes.specs.Conjugacy.{centraliser_of}
use Rattle.slant.proofs.TwistLaws.{elements_lawful, made_lawful}
use Rattle.slant.proofs.centraliser.twist_at.Goals as goal

pub places_group-requires-clause-lawful : goal.places_group-requires-clause-lawful
places_group-requires-clause-lawful c =
    let e = c.in_ok-elements.ensures.centraliser ∙ ap (λ t. centraliser_of t c.args.a) c.group-group.ensures.group in
    elements_lawful _ c.group-group.ensures.cocycle c.args.a c.requires.a_below c.group-group.result.now c.in_ok-elements.elements c.group-group.ensures.group e

pub new-requires : goal.new-requires
new-requires c =
    let e = c.in_ok-elements.ensures.centraliser ∙ ap (λ t. centraliser_of t c.args.a) c.group-group.ensures.group in
    let places = c.in_ok-places.ensures.group ∙ ap (λ t. table_of t c.in_ok-elements.elements) c.group-group.ensures.group in
    made_lawful _ c.group-group.ensures.cocycle c.args.a c.requires.a_below c.in_ok-elements.elements c.in_ok-places.places c.roots.result c.in_ok-phases.phases e places c.roots.ensures.roots c.in_ok-phases.ensures.phases
