use Rattle.qd_ring.proofs.ValueOutcomeLaws.{outcome_value, outcome_wide, part_read}
use Rattle.qd_ring.proofs.value_reader.read_plain.Goals as goal

pub returns-clause-value : goal.returns-clause-value
returns-clause-value c =
    outcome_value _ c.args.phi c.requires.powers c.read_value.result
    (part_read c.args.phi c.args.start c.args.len c.deref.result.now c.args.bytes.now.items c.read_value.result c.deref.ensures.value c.read_value.ensures)

pub returns-clause-wide : goal.returns-clause-wide
returns-clause-wide c =
    outcome_wide _ c.args.phi c.requires.powers c.read_value.result
    (part_read c.args.phi c.args.start c.args.len c.deref.result.now c.args.bytes.now.items c.read_value.result c.deref.ensures.value c.read_value.ensures)
