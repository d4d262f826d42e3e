use Rattle.std.proofs.Common.{[]}
use Rattle.std.proofs.lemmas.Option.{slice_get-get_or}
use Rattle.book_picture.specs.Values.{values_after}
use Rattle.book_picture.proofs.ValueLemmas.{values_turn}
use Rattle.book_picture.proofs.values.values_of.Goals as goal

pub add_event-requires : goal.add_event-requires
add_event-requires c =
    let i = c.loop-event.event-index in
    c.requires _ (i, slice_get-get_or c.args.events.now i _ c.loop-event-test.true)

pub loop-event-preserved : goal.loop-event-preserved
loop-event-preserved c =
    let kind = c.args.kind in
    let book = c.args.book.now in
    let events = c.args.events.now in
    values_turn kind book c.loop-event.values.items c.add_event.new.values.items
    (values_after kind book [] events) events c.loop-event.event-index _
    c.loop-event-test.true c.in_ok-add_event.ensures c.loop-event.invariant
