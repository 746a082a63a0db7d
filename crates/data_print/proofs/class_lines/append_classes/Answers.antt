use Rattle.data_print.proofs.Fronts.{front_of_longer, on_err}
use Rattle.data_print.proofs.class_lines.append_classes.Goals as goal

pub returns-in_err-append_class_lines-clause-front :
    goal.returns-in_err-append_class_lines-clause-front
returns-in_err-append_class_lines-clause-front c =
    on_err c.from_residual.result (front_of_longer _ _ _ _ c.in_err-append_class_lines.ensures.front)
