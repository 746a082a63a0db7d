use Rattle.group_table.proofs.Sentences.{inverse_found}
use Rattle.group_table.proofs.laws.inverses.Goals as goal

pub unwrap-inverse-requires : goal.unwrap-inverse-requires
unwrap-inverse-requires c =
    rw (c.inverse_of.ensures.least, inverse_found _ c.loop-g.g c.requires.group c.loop-g-test.true)
