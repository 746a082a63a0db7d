use Rattle.pair_orbits.proofs.Listings.{listed_commute, listed_least, listed_cover, listed_once, listed_ascend, listed_weights}
use Rattle.pair_orbits.proofs.laws.listing_laws.Goals as goal

pub returns : goal.returns
returns c = record {
  commute = listed_commute;
  least = listed_least;
  cover = listed_cover;
  unique = listed_once;
  ascend = listed_ascend;
  weights = listed_weights;
}
