use Rattle.list_pruning.proofs.Representing.{small_items, stand_for_last, stand_for_none}
use Rattle.list_pruning.proofs.last_first.narrow_by_top.Goals as goal

pub returns-in-Some-clause-suffice : goal.returns-in-Some-clause-suffice
returns-in-Some-clause-suffice g c next bound list is top =
    let reading = g.R.Reader.reading c.args.reader.now in
    c.narrow_by.ensures.suffice next bound list is
    (small_items reading c.args.book.now c.args.cut.now bound list top.items)
    (stand_for_last reading c.args.book.now c.args.cut.now bound c.args.top list c.in-Some.value
    c.in-Some.is top)

pub returns-in-None-clause-suffice : goal.returns-in-None-clause-suffice
returns-in-None-clause-suffice g c next bound list is top =
    let reading = g.R.Reader.reading c.args.reader.now in
    c.narrow_by-in-None.ensures.suffice next bound list is
    (small_items reading c.args.book.now c.args.cut.now bound list top.items)
    (stand_for_none reading c.args.book.now c.args.cut.now bound c.args.top list top)
