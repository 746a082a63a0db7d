use Rattle.prime_field.proofs.Names.{arith}
use Rattle.prime_field.proofs.ResidueRows.{multiples_below, solved_already, solved_next}
use Rattle.prime_field.proofs.elimination.restricted_by.Goals as goal

pub returns-in_default-clause-solved : goal.returns-in_default-clause-solved
returns-in_default-clause-solved c = λ listed n e equation same fails solved.
    rw c.in_ok-same.ensures.items
    (solved_already c.args.ring.now.q listed n c.args.w e c.args.rows.now c.args.numbers.now equation same solved fails c.in_default.ensures.none)

pub returns : goal.returns
returns c = record {
  square = (c.in_ok-next.ensures.rows c.requires.modulus).count;
  below = multiples_below c.args.ring.now.q c.requires.modulus _ _ _ _ _ c.in_ok-next.next.items (c.in_ok-next.ensures.rows c.requires.modulus);
  solved = λ listed n e equation same fails solved.
      solved_next c.args.ring.now.q listed n c.args.w e c.args.rows.now c.args.numbers.now equation same solved fails
      c.in-Some.j c.inverse_of-c.result c.in_ok-next.next.items (omega (arith, c.in-Some.ensures.last.0, c.requires.width)) c.in-Some.ensures.last.2
      c.inverse_of-c.ensures.product (c.in_ok-next.ensures.rows listed);
}
