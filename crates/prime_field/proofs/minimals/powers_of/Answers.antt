use Rattle.prime_field.proofs.Names.{◌≡◌, ◌+◌, true, arith, subst, is_modulus, ListsPowers}
use Rattle.prime_field.proofs.MinimalLists.{first_power, next_powers}
use Rattle.prime_field.proofs.minimals.powers_of.Goals as goal

pub loop-k-init : goal.loop-k-init
loop-k-init c =
    let first = λ (listed : is_modulus c.args.q ≡ true). first_power c.args.q listed c.args.w c.args.a.now c.in_ok-powers.powers.items c.in_ok-powers.ensures.rows in
    record { count = (first c.requires.modulus).count; below = (first c.requires.modulus).below; lists = first }

lists_next : (c : goal.After-drop-next-in-loop-k) → (listed : is_modulus c.args.q ≡ true) → ListsPowers c.args.q listed c.args.w c.args.a.now (c.loop-k.k + 1 + 1) c.extend_from_slice.new.self.items
lists_next c listed =
    rw (c.in_ok-extend_from_slice.ensures.items, c.as_slice-more.ensures.value)
    (next_powers c.args.q listed c.args.w c.args.a.now c.loop-k.k c.loop-k.powers.items c.in_ok-next.next.items (c.loop-k.invariant.lists listed)
    (rw c.as_slice-done.ensures.value at (c.in_ok-next.ensures.numbers listed)))

pub loop-k-preserved : goal.loop-k-preserved
loop-k-preserved c = record { count = (lists_next c c.requires.modulus).count; below = (lists_next c c.requires.modulus).below; lists = lists_next c }

pub returns : goal.returns
returns c = record {
  powers = λ listed. (let ended : c.loop-k.k ≡ c.args.w = omega arith in subst (λ n. ListsPowers c.args.q listed c.args.w c.args.a.now (n + 1) c.loop-k.powers.items) ended (c.loop-k.invariant.lists listed));
}
