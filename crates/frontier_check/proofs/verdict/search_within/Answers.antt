use Rattle.frontier_check.proofs.Leading.{decision-from_after}
use Rattle.frontier_check.proofs.verdict.search_within.Goals as goal

pub returns-clause-right : goal.returns-clause-right
returns-clause-right g c =
    let made = c.in_ok-prefix.ensures in
    decision-from_after c.args.book.now (g.S.SeqObject.spec c.args.object.now)
    c.in_ok-prefix.prefix c.run.result made.places made.cut made.list c.run.ensures.right
