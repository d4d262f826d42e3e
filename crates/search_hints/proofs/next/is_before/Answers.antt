use Rattle.search_hints.proofs.Least.{within-some}
use Rattle.search_hints.proofs.next.is_before.Goals as goal

pub returns-in-Some : goal.returns-in-Some
returns-in-Some c =
    within-some c.args.book.now c.args.counts.now c.args.caller c.in-Some.other c.args.other
    c.first_view-view.result.now c.first_view.result.now c.within.result c.in-Some.is
    c.requires.answered
    c.requires.other c.first_view-view.ensures.view c.first_view.ensures.view c.within.ensures
