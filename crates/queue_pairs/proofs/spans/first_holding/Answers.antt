use Rattle.std.proofs.Common.{◌≡◌, ℕ, ◌+◌, ◌-◌, ◌/◌, ◌≤◌, sym, subst, arith}
use Rattle.book_base.specs.Cut.{Holds}
use Rattle.queue_pairs.specs.Spans.{AreHolding}
use Rattle.queue_pairs.proofs.Spanning.{holding-all, holding-low, holding-high}
use Rattle.queue_pairs.proofs.spans.first_holding.Goals as goal

pub loop-low-init : goal.loop-low-init
loop-low-init c =
    subst (AreHolding c.args.book.now c.args.caller c.args.call 0) (sym c.answers-high.ensures)
    (holding-all c.args.book.now c.args.caller c.args.call)

pub loop-low-preserved-then-holds : goal.loop-low-preserved-then-holds
loop-low-preserved-then-holds c =
    let middle : ℕ = c.loop-low.low + (c.loop-low.high - c.loop-low.low) / 2 in
    holding-high c.args.book.now c.args.caller c.args.call c.loop-low.low c.loop-low.high middle
    c.requires.valid c.loop-low.invariant
    (omega arith) (omega (arith, c.loop-low-test.true)) c.record-view.result
    c.record-view.ensures.record (c.holds.ensures.0 c.if-holds.true)

pub loop-low-preserved : goal.loop-low-preserved
loop-low-preserved c =
    let middle : ℕ = c.loop-low.low + (c.loop-low.high - c.loop-low.low) / 2 in
    holding-low c.args.book.now c.args.caller c.args.call c.loop-low.low c.loop-low.high middle
    c.requires.valid c.loop-low.invariant
    (omega (arith, c.loop-low-test.true)) c.record-view.result c.record-view.ensures.record
    (λ (holds : Holds c.record-view.result.view c.args.call). let yes = c.holds.ensures.1 holds in
    absurd (cc (yes, c.if-holds.false)))

pub returns : goal.returns
returns c =
    let same : c.loop-low.high ≡ c.loop-low.low =
    omega (arith, c.loop-low.invariant.ordered, c.loop-low-test.false) in
    subst (AreHolding c.args.book.now c.args.caller c.args.call c.loop-low.low) same
    c.loop-low.invariant
