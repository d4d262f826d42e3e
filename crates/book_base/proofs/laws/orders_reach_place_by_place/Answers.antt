use Rattle.book_base.proofs.ReachingLemmas.{no_places_reach_the_start, one_more_place_reaches_on, one_cut_is_reached}
use Rattle.book_base.proofs.laws.orders_reach_place_by_place.Goals as goal

pub returns : goal.returns
returns c = record {
  start = no_places_reach_the_start;
  more = one_more_place_reaches_on;
  one = one_cut_is_reached;
}
