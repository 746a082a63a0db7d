-- From an empty buffer the value is what is added.
use Rattle.qd_ring.proofs.Names.{◌∙◌}
use Rattle.qd_ring.proofs.ProductLaws.{added_to_empty}
use Rattle.qd_ring.proofs.cyc_buffer.reduced_image.Goals as goal

pub returns-clause-value : goal.returns-clause-value
returns-clause-value c = c.reduced.ensures.value ∙ c.spread.ensures.value ∙ added_to_empty c.args.k c.args.buffer.now c.requires.empty _
