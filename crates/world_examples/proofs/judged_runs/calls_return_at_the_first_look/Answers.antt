use Rattle.world_examples.proofs.LateReturns.{late_linearizable, missed_error, missed_published, missed_unlawful, returns_may_not_be_late}
use Rattle.world_examples.proofs.judged_runs.calls_return_at_the_first_look.Goals as goal

pub returns-clause-late_lawful : goal.returns-clause-late_lawful
returns-clause-late_lawful c = late_linearizable

pub returns-clause-published : goal.returns-clause-published
returns-clause-published c = missed_published

pub returns-clause-error : goal.returns-clause-error
returns-clause-error c = missed_error

pub returns-clause-so : goal.returns-clause-so
returns-clause-so c = returns_may_not_be_late

pub returns-clause-unlawful : goal.returns-clause-unlawful
returns-clause-unlawful c = missed_unlawful
