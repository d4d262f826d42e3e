use Rattle.smaller_book.proofs.KeyLaw.{has_one_without_keys}
use Rattle.smaller_book.proofs.laws.calls_of_keys_may_be_left_out.Goals as goal

pub returns : goal.returns
returns c = has_one_without_keys
