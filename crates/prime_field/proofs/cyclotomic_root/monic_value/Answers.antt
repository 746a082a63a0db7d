use Rattle.prime_field.proofs.Names.{◌≡◌, ℕ, ◌+◌, ◌-◌, ◌*◌, ◌%◌, ◌≤◌, ◌<◌, pos, ap, ◌∙◌, arith, get_or, read_8, size_at, whole_modulo, value_at}
use Rattle.prime_field.proofs.MonicValues.{whole_modulo_below, value_from, value_from_end, value_from_step}
use Rattle.prime_field.proofs.PolynomialValues.{value_at_below, product_small}
use Rattle.prime_field.proofs.cyclotomic_root.monic_value.Goals as goal

pub loop-i-init : goal.loop-i-init
loop-i-init c = value_from_end c.args.q c.args.r c.args.lower.now c.requires.over_one

-- the value so far is below q
so_far : (q r v : ℕ) (p : _) → 1 < q → v ≡ value_at q r p → v < q
so_far q r v p over_one e = omega (arith, e, value_at_below q r p (omega arith))

coefficient_is : (c : goal.After-residue_of) → c.residue_of.result ≡ whole_modulo c.args.q (get_or c.args.lower.now (c.loop-i.i - 1) (pos 0))
coefficient_is c =
    let a = get_or c.args.lower.now (c.loop-i.i - 1) (pos 0) in
    c.residue_of.ensures ∙ ap (whole_modulo c.args.q) (read_8 a (omega (arith, size_at c.args.lower.now (c.loop-i.i - 1), c.requires.ternary)))

bound : (c : goal.After-residue_of) → 0 + c.args.r * c.loop-i.value ≤ 4294901760
bound c =
    product_small c.args.q 0 c.args.r c.loop-i.value c.requires.small (omega (arith, c.requires.over_one)) c.requires.r_below
    (so_far c.args.q c.args.r c.loop-i.value _ c.requires.over_one c.loop-i.invariant)

pub overflow_mul-value : goal.overflow_mul-value
overflow_mul-value c = record { fits = omega (arith, bound c) }

pub overflow_add-value : goal.overflow_add-value
overflow_add-value c =
    let below = whole_modulo_below c.args.q (get_or c.args.lower.now (c.loop-i.i - 1) (pos 0)) (omega (arith, c.requires.over_one)) in
    record { fits = omega (arith, bound c, coefficient_is c, below, c.requires.small) }

pub loop-i-preserved : goal.loop-i-preserved
loop-i-preserved c =
    ap (λ k. (k + c.args.r * c.loop-i.value) % c.args.q) (coefficient_is c)
    ∙ value_from_step c.args.q c.args.r c.args.lower.now c.loop-i.i c.loop-i.value c.loop-i-test.true c.loop-i.auto.i c.loop-i.invariant

pub returns : goal.returns
returns c =
    let ended : c.loop-i.i ≡ 0 = omega (arith, c.loop-i-test.false) in
    record { value = c.loop-i.invariant ∙ ap (λ n. value_from c.args.q c.args.r c.args.lower.now n) ended }
