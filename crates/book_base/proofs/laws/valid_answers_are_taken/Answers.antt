use Rattle.book_base.proofs.GrowthLemmas.{IsValid-with_answer, MayAnswer-from_valid}
use Rattle.book_base.proofs.laws.valid_answers_are_taken.Goals as goal

pub returns : goal.returns
returns c book caller answer valid inside wide = (
  MayAnswer-from_valid book caller answer inside,
  λ may. IsValid-with_answer book caller answer inside wide may valid,
)
