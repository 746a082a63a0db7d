-- The new number fits, and it changes the value by c x^v.
use Rattle.qd_ring.proofs.Names.{◌+◌, ◌≤◌, get_or, set, ap, sym, subst, ◌∙◌, arith, nat_abs, pos, ◌+ℤ◌, value_of, total_of, magnitude-sum}
use Rattle.qd_ring.proofs.BufferLaws.{fits_128, read_128, read_sum, magnitude_at, total-add, value-add_at}
use Rattle.qd_ring.proofs.cyc_buffer.add_at.Goals as goal

pub overflow_add-buffer : goal.overflow_add-buffer
overflow_add-buffer c =
    let a = get_or c.args.buffer.now c.args.v (pos 0) in
    let bound = magnitude_at c.args.buffer.now c.args.v in
    let room = c.requires.room in
    rw (read_128 a (omega (arith, bound, room)), read_128 c.args.c (omega (arith, room)))
    (fits_128 (a +ℤ c.args.c) (omega (arith, bound, room, magnitude-sum a c.args.c)))

pub returns : goal.returns
returns c =
    let a = get_or c.args.buffer.now c.args.v (pos 0) in
    let read = read_sum a c.args.c (omega (arith, magnitude_at c.args.buffer.now c.args.v, c.requires.room)) in
    record {
      value = λ m.
          ap (λ z. value_of m (set c.args.buffer.now c.args.v z)) read
          ∙ value-add_at m c.args.buffer.now c.args.v c.args.c c.requires.place;
      total = subst (λ z. total_of (set c.args.buffer.now c.args.v z) ≤ total_of c.args.buffer.now + nat_abs c.args.c)
          (sym read) (total-add c.args.buffer.now c.args.v c.args.c);
    }
