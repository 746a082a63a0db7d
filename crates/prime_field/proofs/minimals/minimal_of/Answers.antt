use Rattle.prime_field.proofs.MinimalLists.{found_minimal, poly_below}
use Rattle.prime_field.proofs.minimals.minimal_of.Goals as goal

pub returns : goal.returns
returns c =
    let found = rw c.as_slice.ensures.value at c.in_ok-f.ensures.row in
    record {
      below = poly_below c.args.ring.now.q _ c.in_ok-rows.rows.items c.in_ok-f.f found.0 c.in_ok-rows.ensures.square c.in_ok-rows.ensures.below found.1.below found.2;
      minimal = λ listed.
          found_minimal c.args.ring.now.q listed c.args.w c.args.numbers.now c.in_ok-rows.rows.items found.0 c.in_ok-f.f c.in_ok-rows.ensures.square c.in_ok-rows.ensures.below
          (c.in_ok-rows.ensures.solved listed) found.1 found.2;
    }
