use Rattle.group_make.proofs.Names.{◌+◌, ◌/◌, ◌%◌, arith, mod-lt}
use Rattle.group_make.proofs.Bounds.{TripleFits, triple_fits}
use Rattle.group_make.proofs.formulas.triple_product.Goals as goal

fits : (c : goal.Start)
    → let a = c.args.a in let b = c.args.b in let d = c.args.c in let g = c.args.g in let h = c.args.h in
    TripleFits a b d ((g / d / b + h / d / b) % a) ((g / d % b + h / d % b) % b) ((g % d + h % d) % d)
fits c = triple_fits _ _ _ _ _ _ c.requires.c_positive c.requires.few (mod-lt _ c.requires.a_positive) (mod-lt _ c.requires.b_positive) (mod-lt _ c.requires.c_positive)

pub overflow_add-result : goal.overflow_add-result
overflow_add-result c = omega (arith, (fits c).row)

pub overflow_mul-result-2 : goal.overflow_mul-result-2
overflow_mul-result-2 c = omega (arith, (fits c).scaled)

pub overflow_add-result-2 : goal.overflow_add-result-2
overflow_add-result-2 c = omega (arith, (fits c).all)
