use Rattle.dixon_split.proofs.Names.{◌+◌, ◌-◌, ◌%◌, ◌<◌, ◌≤◌, sym, arith, mod-lt, mod-eq_of_lt, ap₂, modulus_bound, modulus_positive}
use Rattle.dixon_split.proofs.arithmetic.minus.Goals as goal

pub overflow_add-result : goal.overflow_add-result
overflow_add-result c = record {
  fits = (let small : c.args.q ≤ 337 = modulus_bound c.args.q c.requires.modulus in
      let low : (c.args.q - c.args.b) % c.args.q < c.args.q = mod-lt (c.args.q - c.args.b) (modulus_positive c.args.q c.requires.modulus) in omega arith);
}

pub returns-clause-residue : goal.returns-clause-residue
returns-clause-residue c = λ listed.
    sym (ap₂ (λ x y. (x + (c.args.q - y) % c.args.q) % c.args.q) (mod-eq_of_lt c.requires.a_below) (mod-eq_of_lt c.requires.b_below))
