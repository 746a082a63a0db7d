use Rattle.dixon_split.proofs.Names.{length, refl, subst, sym, ◌<◌, ◌/◌, ◌%◌, rank}
use Rattle.dixon_split.proofs.ClassSums.{digits, length_is, place_small, row_inside, row_is_sum, constant_is}
use Rattle.dixon_split.proofs.class_sums.constant_at.Goals as goal

pub nonzero_div-n : goal.nonzero_div-n
nonzero_div-n c = (digits (rank c.args.twist.now) c.len-rank.result c.args.n (length_is c.args.twist.now c.len-rank.result c.args.places.now c.len-rank.ensures.count c.requires.places) c.requires.n_below).0

pub nonzero_div-n-2 : goal.nonzero_div-n-2
nonzero_div-n-2 c = (digits (rank c.args.twist.now) c.len-rank.result c.args.n (length_is c.args.twist.now c.len-rank.result c.args.places.now c.len-rank.ensures.count c.requires.places) c.requires.n_below).0

pub nonzero_div-n-3 : goal.nonzero_div-n-3
nonzero_div-n-3 c = (digits (rank c.args.twist.now) c.len-rank.result c.args.n (length_is c.args.twist.now c.len-rank.result c.args.places.now c.len-rank.ensures.count c.requires.places) c.requires.n_below).0

pub nonzero_rem-n : goal.nonzero_rem-n
nonzero_rem-n c = (digits (rank c.args.twist.now) c.len-rank.result c.args.n (length_is c.args.twist.now c.len-rank.result c.args.places.now c.len-rank.ensures.count c.requires.places) c.requires.n_below).0

pub nonzero_rem-n-2 : goal.nonzero_rem-n-2
nonzero_rem-n-2 c = (digits (rank c.args.twist.now) c.len-rank.result c.args.n (length_is c.args.twist.now c.len-rank.result c.args.places.now c.len-rank.ensures.count c.requires.places) c.requires.n_below).0

pub row-first-requires : goal.row-first-requires
row-first-requires c = record { inside = row_inside c.args.ring.now c.args.twist.now c.args.sums.now (c.args.n / c.len-rank.result / c.len-rank.result) c.size-size.result c.requires.sums (digits (rank c.args.twist.now) c.len-rank.result c.args.n (length_is c.args.twist.now c.len-rank.result c.args.places.now c.len-rank.ensures.count c.requires.places) c.requires.n_below).1 c.size-size.ensures.size }

pub row-second-requires : goal.row-second-requires
row-second-requires c = record { inside = row_inside c.args.ring.now c.args.twist.now c.args.sums.now (c.args.n / c.len-rank.result % c.len-rank.result) c.size-size.result c.requires.sums (digits (rank c.args.twist.now) c.len-rank.result c.args.n (length_is c.args.twist.now c.len-rank.result c.args.places.now c.len-rank.ensures.count c.requires.places) c.requires.n_below).2 c.size-size.ensures.size }

pub at-requires : goal.at-requires
at-requires c = record { in_range = subst (λ m. c.args.n % c.len-rank.result < m) (sym (length_is c.args.twist.now (length c.args.places.now) c.args.places.now refl c.requires.places)) (digits (rank c.args.twist.now) c.len-rank.result c.args.n (length_is c.args.twist.now c.len-rank.result c.args.places.now c.len-rank.ensures.count c.requires.places) c.requires.n_below).3 }

pub product_at-requires-clause-a_count : goal.product_at-requires-clause-a_count
product_at-requires-clause-a_count c = (row_is_sum c.args.ring.now c.args.twist.now c.args.sums.now c.row-first.result.now (c.args.n / c.len-rank.result / c.len-rank.result) c.size-size.result c.requires.sums (digits (rank c.args.twist.now) c.len-rank.result c.args.n (length_is c.args.twist.now c.len-rank.result c.args.places.now c.len-rank.ensures.count c.requires.places) c.requires.n_below).1 c.size-size.ensures.size c.row-first.ensures.row).count

pub product_at-requires-clause-a_below : goal.product_at-requires-clause-a_below
product_at-requires-clause-a_below c = (row_is_sum c.args.ring.now c.args.twist.now c.args.sums.now c.row-first.result.now (c.args.n / c.len-rank.result / c.len-rank.result) c.size-size.result c.requires.sums (digits (rank c.args.twist.now) c.len-rank.result c.args.n (length_is c.args.twist.now c.len-rank.result c.args.places.now c.len-rank.ensures.count c.requires.places) c.requires.n_below).1 c.size-size.ensures.size c.row-first.ensures.row).below

pub product_at-requires-clause-b_count : goal.product_at-requires-clause-b_count
product_at-requires-clause-b_count c = (row_is_sum c.args.ring.now c.args.twist.now c.args.sums.now c.row-second.result.now (c.args.n / c.len-rank.result % c.len-rank.result) c.size-size.result c.requires.sums (digits (rank c.args.twist.now) c.len-rank.result c.args.n (length_is c.args.twist.now c.len-rank.result c.args.places.now c.len-rank.ensures.count c.requires.places) c.requires.n_below).2 c.size-size.ensures.size c.row-second.ensures.row).count

pub product_at-requires-clause-b_below : goal.product_at-requires-clause-b_below
product_at-requires-clause-b_below c = (row_is_sum c.args.ring.now c.args.twist.now c.args.sums.now c.row-second.result.now (c.args.n / c.len-rank.result % c.len-rank.result) c.size-size.result c.requires.sums (digits (rank c.args.twist.now) c.len-rank.result c.args.n (length_is c.args.twist.now c.len-rank.result c.args.places.now c.len-rank.ensures.count c.requires.places) c.requires.n_below).2 c.size-size.ensures.size c.row-second.ensures.row).below

pub product_at-requires-clause-x_below : goal.product_at-requires-clause-x_below
product_at-requires-clause-x_below c = place_small c.args.twist.now c.size-size.ensures.twist c.args.places.now (c.args.n % c.len-rank.result) c.at.result c.requires.places c.at.ensures.number

pub returns-clause-value : goal.returns-clause-value
returns-clause-value c =
    constant_is c.args.ring.now c.args.twist.now c.size-size.ensures.twist c.len-rank.result c.args.n c.at.result c.product_at.result c.args.places.now c.row-first.result.now c.row-second.result.now
    (length_is c.args.twist.now c.len-rank.result c.args.places.now c.len-rank.ensures.count c.requires.places) c.requires.places
    (row_is_sum c.args.ring.now c.args.twist.now c.args.sums.now c.row-first.result.now (c.args.n / c.len-rank.result / c.len-rank.result) c.size-size.result c.requires.sums (digits (rank c.args.twist.now) c.len-rank.result c.args.n (length_is c.args.twist.now c.len-rank.result c.args.places.now c.len-rank.ensures.count c.requires.places) c.requires.n_below).1 c.size-size.ensures.size c.row-first.ensures.row)
    (row_is_sum c.args.ring.now c.args.twist.now c.args.sums.now c.row-second.result.now (c.args.n / c.len-rank.result % c.len-rank.result) c.size-size.result c.requires.sums (digits (rank c.args.twist.now) c.len-rank.result c.args.n (length_is c.args.twist.now c.len-rank.result c.args.places.now c.len-rank.ensures.count c.requires.places) c.requires.n_below).2 c.size-size.ensures.size c.row-second.ensures.row)
    c.at.ensures.number c.product_at.ensures.value
