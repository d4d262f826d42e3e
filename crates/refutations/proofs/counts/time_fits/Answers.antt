use Rattle.std.proofs.Common.{◌<◌}
use Rattle.book_base.specs.Book.{answers_of}
use Rattle.refutations.proofs.Counting.{due_as, begun_as, held_as, denied}
use Rattle.refutations.proofs.counts.time_fits.Goals as goal

pub returns-in-TakesDue : goal.returns-in-TakesDue
returns-in-TakesDue c = rw c.in-TakesDue.is (λ is.
    let due = due_as c.args.book.now c.args.call c.args.span c.in-TakesDue.moment is in
    (λ e. due.0 (c.is_up_to.ensures.0 e), λ d. c.is_up_to.ensures.1 (due.1 d)))

pub returns-in-PutsBegun : goal.returns-in-PutsBegun
returns-in-PutsBegun c = rw c.in-PutsBegun.is (λ is.
    let begun = begun_as c.args.book.now c.args.call c.args.span c.in-PutsBegun.moment is in (
      λ e. begun.0 (c.is_up_to-in-PutsBegun.ensures.0 e),
      λ d. c.is_up_to-in-PutsBegun.ensures.1 (begun.1 d),
    ))

pub returns-in-PutsBefore : goal.returns-in-PutsBefore
returns-in-PutsBefore c = rw c.in-PutsBefore.is (λ is. c.is_answered_before.ensures)

pub returns-in-TakesHeld : goal.returns-in-TakesHeld
returns-in-TakesHeld c =
    let other = c.in-TakesHeld.other in
    let answered : other.number < answers_of c.args.book.now other.caller
    = rw c.in-TakesHeld.is at c.requires.sort in
    rw c.in-TakesHeld.is (λ is. denied c.precedes.result _ _
    c.precedes.ensures (held_as c.args.book.now other c.args.call
    c.callers-callers.ensures.valid answered))
