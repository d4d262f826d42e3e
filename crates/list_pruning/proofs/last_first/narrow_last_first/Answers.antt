use Rattle.list_pruning.proofs.Stepping.{small_reached}
use Rattle.list_pruning.proofs.Representing.{stand_for_itself}
use Rattle.list_pruning.proofs.last_first.narrow_last_first.Goals as goal

pub returns-clause-suffice : goal.returns-clause-suffice
returns-clause-suffice g c spec bound is small reached =
    let reading = g.R.Reader.reading c.args.reader.now in
    let book = c.args.book.now in
    let cut = c.args.cut.now in
    let words = c.args.words.now in
    c.narrow_by.ensures.suffice spec.next bound words is
    (small_reached reading spec bound book cut words is small reached)
    (stand_for_itself reading book cut words)
