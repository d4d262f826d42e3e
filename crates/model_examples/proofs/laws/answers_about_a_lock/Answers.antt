use Rattle.std.proofs.Common.{List, sym, subst}
use Rattle.book_base.specs.declared.call.Place.{Place}
use Rattle.book_base.specs.Order.{IsLegalOrder}
use Rattle.model_examples.specs.Locks.{two_calls}
use Rattle.model_examples.proofs.Lock.{second_ask, lock_legal}
use Rattle.model_examples.proofs.Replies.{not_twice}
use Rattle.model_examples.proofs.laws.answers_about_a_lock.Goals as goal

pub returns-clause-ask : goal.returns-clause-ask
returns-clause-ask c = second_ask

pub returns-clause-legal : goal.returns-clause-legal
returns-clause-legal c order is spec agrees =
    subst (λ (places : List Place). IsLegalOrder spec (two_calls 1 1 1 0) places) (sym is)
    (lock_legal spec agrees)

pub returns-clause-illegal : goal.returns-clause-illegal
returns-clause-illegal c = not_twice
