use Rattle.book_base.proofs.ViewLemmas.{views_grow, precedes_by_view}
use Rattle.book_base.proofs.laws.views_of_a_caller_rise.Goals as goal

pub returns : goal.returns
returns c = record {
  rise = λ book a b r s valid. views_grow book valid a b r s;
  precedes = λ book a b r valid. precedes_by_view book valid a b r;
}
