use Rattle.std.proofs.Common.{◌<◌, arith}
use Rattle.std.proofs.lemmas.Option.{slice_get_within}
use Rattle.book_base.specs.Book.{answers_of}
use Rattle.book_base.proofs.PageLemmas.{caller_from_answer}
use Rattle.list_pruning.proofs.values.value_taken.Goals as goal
use Rattle.list_pruning.proofs.values.value_taken.Goals.{then-call-callers-via-then-call-callers, then-call-callers-via-else-call-callers+then-call-answers}

pub returns-then-call-callers-clause-none : goal.returns-then-call-callers-clause-none
returns-then-call-callers-clause-none g c v takes =
    let book = c.args.book.now in
    let answered : c.args.call.number < answers_of book c.args.call.caller =
    slice_get_within _ c.args.call.number takes.1 takes.3 in
    let there = caller_from_answer book c.args.call.caller c.args.call.number answered in
    elim c.then-call-callers.branch [
      | then-call-callers-via-then-call-callers w ↦
          omega (arith, there, w.if-call-callers.true, c.callers.ensures.count)
      | then-call-callers-via-else-call-callers+then-call-answers w ↦
          omega (arith, answered, w.answers.ensures, w.if-call-answers.true)
    ]
