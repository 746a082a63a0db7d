use Rattle.char_lift.proofs.Names.{◌*◌, ◌≤◌, arith, mul-le, modulus_bound}
use Rattle.char_lift.proofs.degree.is_degree.Goals as goal

pub overflow_mul-result-then-d-m : goal.overflow_mul-result-then-d-m
overflow_mul-result-then-d-m c =
    let f = c.args.powers.now in
    let d = c.args.d in
    let square : d * d ≤ 60 * 60 = mul-le d d 60 60 c.requires.d_small c.requires.d_small in
    let product : d * d * c.args.t ≤ 3600 * 337 = mul-le (d * d) c.args.t 3600 337 (omega (arith, square)) (omega (arith, c.requires.t_below, modulus_bound f.q f.listed)) in
    record { fits = omega (arith, product) }
