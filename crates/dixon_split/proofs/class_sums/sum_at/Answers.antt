use Rattle.dixon_split.proofs.Names.{◌≡◌, length, refl, sym, subst, ◌<◌, ◌/◌, rank, size}
use Rattle.dixon_split.proofs.ClassSums.{two_digits, length_is, place_small}
use Rattle.dixon_split.proofs.class_sums.sum_at.Goals as goal

pub at-requires : goal.at-requires
at-requires c = record {
  in_range = (let digits = two_digits (rank c.args.twist.now) (size c.args.twist.now) c.size-size.result c.args.n c.size-size.ensures.size c.requires.n_below in
      let count : length c.args.places.now ≡ rank c.args.twist.now = length_is c.args.twist.now (length c.args.places.now) c.args.places.now refl c.requires.places in
      subst (λ m. c.args.n / c.size-size.result < m) (sym count) digits.1);
}

pub class_sum_at-requires : goal.class_sum_at-requires
class_sum_at-requires c = record { p_below = place_small c.args.twist.now c.size-size.ensures.twist c.args.places.now (c.args.n / c.size-size.result) c.at.result c.requires.places c.at.ensures.number }
