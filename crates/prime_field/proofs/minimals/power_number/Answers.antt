use Rattle.prime_field.proofs.Names.{◌≡◌, ◌<◌, ◌≤◌, ◌+◌, ◌-◌, ◌*◌, ◌/◌, ◌%◌, ap, ◌∙◌, arith, ℕ, List, length, column_below}
use Rattle.prime_field.proofs.ResidueRows.{place_in, length_slice, dot_of_lists, row_taken}
use Rattle.prime_field.proofs.minimals.power_number.Goals as goal

within : (w n : ℕ) (a : List ℕ) → length a ≡ w * w → n < w * w → n % w * w + w ≤ length a
within w n a size h =
    let row = column_below w n h in
    let last = place_in w w (n % w) (w - 1) row (omega arith) in
    omega arith

pub returns-clause-number : goal.returns-clause-number
returns-clause-number c = λ listed.
    (let q = c.args.q in
    let w = c.args.w in
    c.dot.ensures.dot listed
    ∙ ap (λ z. z.value)
    (dot_of_lists q listed w _ _ _ _ (length_slice c.args.a.now (c.args.n % w * w) w (within w c.args.n c.args.a.now c.requires.square c.requires.n_below))
    (row_taken q listed w (c.args.n % w) c.args.a.now) (row_taken q listed w (c.args.n / w) c.args.power.now)))
