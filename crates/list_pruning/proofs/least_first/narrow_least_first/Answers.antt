use Rattle.std.proofs.Common.{refl, arith}
use Rattle.list_pruning.proofs.Placing.{rising-reached}
use Rattle.list_pruning.proofs.Taking.{first_take_suffices}
use Rattle.list_pruning.proofs.Putting.{put_suffices}
use Rattle.list_pruning.proofs.Wanting.{wanted_suffice}
use Rattle.list_pruning.proofs.least_first.narrow_least_first.Goals as goal

pub returns-in-Some-clause-suffice : goal.returns-in-Some-clause-suffice
returns-in-Some-clause-suffice g c spec bound is rising reached =
    let reading = g.R.Reader.reading c.args.reader.now in
    let book = c.args.book.now in
    let cut = c.args.cut.now in
    let words = c.args.words.now in
    let caller = c.in-Some.caller in
    first_take_suffices reading spec.next bound is book cut words caller c.only.result
    (rising-reached reading spec bound book cut words is rising reached)
    c.callers-callers.ensures.valid
    c.requires.open (omega (arith, c.requires.wide))
    ((c.requires.marks caller).0 c.in-Some.ensures.marked) c.in-Some.ensures.take
    ((c.only.ensures caller).1 refl)

pub returns-in-Some-least_put-clause-suffice : goal.returns-in-Some-least_put-clause-suffice
returns-in-Some-least_put-clause-suffice g c spec bound is rising reached =
    let reading = g.R.Reader.reading c.args.reader.now in
    let book = c.args.book.now in
    let cut = c.args.cut.now in
    let words = c.args.words.now in
    let caller = c.in-Some-least_put.caller in
    put_suffices reading spec.next bound is book cut words caller c.only-in-Some-least_put.result
    (rising-reached reading spec bound book cut words is rising reached)
    c.callers-callers.ensures.valid c.requires.open (omega (arith, c.requires.wide))
    ((c.requires.marks caller).0 c.in-Some-least_put.ensures.marked) c.in-Some-least_put.ensures.put
    ((c.only-in-Some-least_put.ensures caller).1 refl)

pub returns-clause-suffice : goal.returns-clause-suffice
returns-clause-suffice g c spec bound is rising reached =
    let reading = g.R.Reader.reading c.args.reader.now in
    let book = c.args.book.now in
    let cut = c.args.cut.now in
    let words = c.args.words.now in
    wanted_suffice reading spec.next bound is book c.callers-callers.ensures.valid
    c.requires.open cut
    words c.args.forced c.args.marks c.without_unwanted.result
    (rising-reached reading spec bound book cut words is rising reached)
    (omega (arith, c.requires.wide)) c.requires.forced c.requires.marks
    c.without_unwanted.ensures.unwanted
