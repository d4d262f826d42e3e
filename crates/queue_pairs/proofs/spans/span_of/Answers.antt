use Rattle.queue_pairs.proofs.Spanning.{span-is}
use Rattle.queue_pairs.proofs.spans.span_of.Goals as goal

pub returns : goal.returns
returns c =
    span-is c.args.book.now c.args.call c.first_of-first.result c.last_of-last.result
    c.callers-callers.ensures.valid c.callers-callers.ensures.small
    c.first_of-first.ensures c.last_of-last.ensures.answered c.last_of-last.ensures.unanswered
