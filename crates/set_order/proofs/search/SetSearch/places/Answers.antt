use Rattle.std.proofs.Common.{◌+◌, ◌<◌, List, length, take, sym, subst, arith}
use Rattle.std.proofs.lemmas.Bool.{both_ways}
use Rattle.book_base.specs.declared.call.Place.{Place}
use Rattle.set_order.specs.Search.{ArePlaced}
use Rattle.set_order.proofs.Trying.{caller-within, number-within, placed-more, placed-all, wrong-from_other, got}
use Rattle.set_order.proofs.search.SetSearch.places.Goals as goal

pub returns-then-not-is_recorded-clause-none : goal.returns-then-not-is_recorded-clause-none
returns-then-not-is_recorded-clause-none g c =
    let replies = c.args.replies.now.words in
    wrong-from_other c.args.self.now.book.now c.args.counts.now c.args.callers.now replies
    c.loop-at.at c.from-number.result c.get-reply.result c.loop-at-test.true c.from-number.ensures
    (sym (got replies c.loop-at.at c.get-reply.result c.get-reply.ensures)) (λ same.
    both_ways c.is_recorded.result c.if-not-is_recorded.true (c.is_recorded.ensures.1 same))

pub loop-at-preserved : goal.loop-at-preserved
loop-at-preserved g c =
    let book = c.args.self.now.book.now in
    let counts = c.args.counts.now in
    let callers = c.args.callers.now in
    let replies = c.args.replies.now.words in
    let at = c.loop-at.at in
    let inside : at < length callers = c.loop-at-test.true in
    subst (λ (places : List Place). ArePlaced book counts (take (at + 1) callers)
    (take (at + 1) replies) places) (sym c.in_ok-push.ensures.items)
    (placed-more book counts callers replies at c.from-number.result c.get-reply.result
    c.loop-at.places.items c.loop-at.invariant inside (omega (arith, c.requires.replies))
    c.from-number.ensures (sym (got replies at c.get-reply.result c.get-reply.ensures))
    (c.is_recorded.ensures.0 c.if-not-is_recorded.false))

pub bounds-counts-caller : goal.bounds-counts-caller
bounds-counts-caller g c = caller-within c.args.counts.now c.args.callers.now c.loop-at.at
    c.loop-at-test.true c.requires.inside

pub is_recorded-requires : goal.is_recorded-requires
is_recorded-requires g c =
    number-within c.args.self.now.book.now c.args.counts.now c.args.callers.now c.loop-at.at
    c.from-number.result c.loop-at-test.true c.from-number.ensures c.requires.calls

pub returns-clause-some : goal.returns-clause-some
returns-clause-some g c =
    let book = c.args.self.now.book.now in
    let counts = c.args.counts.now in
    let callers = c.args.callers.now in
    let replies = c.args.replies.now.words in
    subst (λ (places : List Place). ArePlaced book counts callers replies places)
    (sym c.new.ensures)
    (placed-all book counts callers replies c.loop-at.at c.loop-at.places.items c.loop-at.invariant
    c.loop-at-test.false c.requires.replies)
