use Rattle.std.proofs.Common.{true≢false, refl, sym}
use Rattle.book_base.specs.declared.TheConstants.{BAD}
use Rattle.told_models.specs.Completion.{completion}
use Rattle.told_models.proofs.Agreeing.{completions_agree}
use Rattle.model_examples.specs.Locks.{acquired}
use Rattle.model_examples.proofs.Lock.{twice_agrees, first_is_open, first_agrees}
use Rattle.model_examples.proofs.Replies.{none_is_bad}
use Rattle.model_examples.proofs.TwoCalls.{two_calls_are_legal}
use Rattle.model_examples.proofs.laws.tables_that_are_not_closed_decide_nothing.Goals as goal

pub returns-clause-twice : goal.returns-clause-twice
returns-clause-twice c = twice_agrees

pub returns-clause-untold : goal.returns-clause-untold
returns-clause-untold c = first_is_open

pub returns-clause-agrees : goal.returns-clause-agrees
returns-clause-agrees c = (
  completions_agree acquired (λ state op t told made. absurd (true≢false (sym made))),
  first_agrees,
)

pub returns-clause-legal : goal.returns-clause-legal
returns-clause-legal c = two_calls_are_legal (completion acquired) 1 1 1 BAD refl refl

pub returns-clause-illegal : goal.returns-clause-illegal
returns-clause-illegal c = none_is_bad
