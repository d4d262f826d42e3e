use Rattle.std.proofs.Common.{List, IfOk, IfSome, subst}
use Rattle.smaller_book.specs.Numbers.{numbers_in}
use Rattle.level_refutations.specs.declared.entry.LevelEntry.{LevelEntry}
use Rattle.level_refutations.specs.Said.{entries_said}
use Rattle.refutation_text.specs.Said.{Takes}
use Rattle.refutation_text.specs.Verdicts.{EndingFails, LevelsFail}
use Rattle.refutation_text.proofs.Judging.{for_steps}
use Rattle.refutation_text.proofs.verdict.fault_of_ending.Goals as goal

pub returns-in-CountsTakes-clause-fault : goal.returns-in-CountsTakes-clause-fault
returns-in-CountsTakes-clause-fault c =
    rw c.in-CountsTakes.is (for_steps c.fault_of_takes.result
    (λ s. EndingFails c.args.kind (numbers_in c.args.left.now.numbers.items)
    c.args.left.now.book s (Takes c.in-CountsTakes.value c.in-CountsTakes.moment))
    c.fault_of_takes.ensures.fault c.args.steps)

pub returns-in-Levels-clause-fault : goal.returns-in-Levels-clause-fault
returns-in-Levels-clause-fault c = rw c.in-Levels.is
    (subst (λ (l : List LevelEntry). IfOk c.fault_of_levels.result
    (λ found. IfSome found (LevelsFail c.args.kind c.args.left.now.book (entries_said l))))
    c.deref-in-Levels.ensures.value c.fault_of_levels.ensures.fault)
