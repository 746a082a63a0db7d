use Rattle.dixon_split.proofs.Names.{◌*◌, ◌≤◌, ap, refl, subst, sym, arith, ap₂, IsTabulated, sum_number}
use Rattle.dixon_split.proofs.ClassSums.{length_is, rank_small, sums_few, squares_few, cubes_few, constants_below, constant_found}
use Rattle.dixon_split.proofs.class_sums.centre.Goals as goal

pub overflow_mul-rank : goal.overflow_mul-rank
overflow_mul-rank c = record { fits = (let few = sums_few c.args.twist.now c.size-size.ensures.twist c.len-rank.result c.size-size.result (length_is c.args.twist.now c.len-rank.result c.in_ok-places.places c.len-rank.ensures.count c.in_ok-places.ensures.representatives) c.size-size.ensures.size in omega arith) }

pub class_sums-requires-clause-count : goal.class_sums-requires-clause-count
class_sums-requires-clause-count c = ap₂ (λ x y. x * y) (length_is c.args.twist.now c.len-rank.result c.in_ok-places.places c.len-rank.ensures.count c.in_ok-places.ensures.representatives) c.size-size.ensures.size

pub overflow_mul-rank-2 : goal.overflow_mul-rank-2
overflow_mul-rank-2 c = record { fits = (let few = squares_few c.args.twist.now c.size-size.ensures.twist c.len-rank.result (length_is c.args.twist.now c.len-rank.result c.in_ok-places.places c.len-rank.ensures.count c.in_ok-places.ensures.representatives) in omega arith) }

pub overflow_mul-rank-3 : goal.overflow_mul-rank-3
overflow_mul-rank-3 c = record { fits = (let few = cubes_few c.args.twist.now c.size-size.ensures.twist c.len-rank.result (length_is c.args.twist.now c.len-rank.result c.in_ok-places.places c.len-rank.ensures.count c.in_ok-places.ensures.representatives) in omega arith) }

pub constants-requires-clause-sums : goal.constants-requires-clause-sums
constants-requires-clause-sums c =
    subst (λ n. IsTabulated n (sum_number c.args.ring.now c.args.twist.now) c.as_slice.result.now) (ap₂ (λ x y. x * y) (length_is c.args.twist.now c.len-rank.result c.in_ok-places.places c.len-rank.ensures.count c.in_ok-places.ensures.representatives) c.size-size.ensures.size)
    (subst (λ xs. IsTabulated (c.len-rank.result * c.size-size.result) (sum_number c.args.ring.now c.args.twist.now) xs) (sym c.as_slice.ensures.value) c.in_ok-sums.ensures.sums)

pub constants-requires-clause-count : goal.constants-requires-clause-count
constants-requires-clause-count c = ap (λ r. r * r * r) (length_is c.args.twist.now c.len-rank.result c.in_ok-places.places c.len-rank.ensures.count c.in_ok-places.ensures.representatives)

pub invariant_of-result : goal.invariant_of-result
invariant_of-result c = record {
  listed = c.args.ring.now.listed;
  few = subst (λ r. r ≤ 61) (sym (length_is c.args.twist.now c.len-rank.result c.in_ok-places.places c.len-rank.ensures.count c.in_ok-places.ensures.representatives)) (rank_small c.args.twist.now c.size-size.ensures.twist);
  count = c.in_ok-constants.ensures.constants.count;
  below = constants_below c.args.ring.now c.args.twist.now (c.len-rank.result * c.len-rank.result * c.len-rank.result) c.in_ok-constants.constants.items c.in_ok-constants.ensures.constants;
}

pub returns-clause-centre : goal.returns-clause-centre
returns-clause-centre c = record {
  prime = refl;
  dimension = (length_is c.args.twist.now c.len-rank.result c.in_ok-places.places c.len-rank.ensures.count c.in_ok-places.ensures.representatives);
  constants = constant_found c.args.ring.now c.args.twist.now c.len-rank.result c.in_ok-constants.constants.items (length_is c.args.twist.now c.len-rank.result c.in_ok-places.places c.len-rank.ensures.count c.in_ok-places.ensures.representatives) c.in_ok-constants.ensures.constants;
}
