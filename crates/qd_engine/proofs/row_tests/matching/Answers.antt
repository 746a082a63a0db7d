use Rattle.qd_engine.proofs.Names.{sym, ap, ◌∙◌, option_map, Shape}
use Rattle.qd_engine.proofs.Shapes.{shape_matches}
use Rattle.qd_engine.proofs.row_tests.matching.Goals as goal

pub returns-in-None : goal.returns-in-None
returns-in-None c =
    let none = sym c.shape_fault.ensures.fault ∙ c.in-None.is in
    record { tested = (ap (option_map Shape) none, shape_matches _ _ none) }
