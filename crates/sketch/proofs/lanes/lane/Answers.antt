use Rattle.std.proofs.Common.{◌+◌, ℕ, length, sym, ap, subst, inr, ◌∙◌, arith}
use Rattle.book_base.specs.declared.call.Call.{Call}
use Rattle.book_base.specs.Book.{IsCall}
use Rattle.sketch.specs.declared.interval.Interval.{Interval}
use Rattle.sketch.proofs.IntervalLemmas.{invoked_from, ends_before}
use Rattle.sketch.proofs.LaneLemmas.{IsPrefixOf, prefix_none, prefix_more, prefix_whole}
use Rattle.sketch.proofs.lanes.lane.Goals as goal

pub loop-number-init : goal.loop-number-init
loop-number-init c =
    let book = c.args.book.now in
    let events = c.args.events.now in
    record {
      count = omega (arith, ap (length {A = Interval}) c.new-lane.ensures.items);
      prefix =
          prefix_none book events c.args.caller c.new-lane.result.items c.new-lane.ensures.items;
      from = λ is. invoked_from book events c.requires.sketch
          (record { caller = c.args.caller; number = 0 }) 0 is (λ k _. omega arith);
    }

pub loop-number-preserved : goal.loop-number-preserved
loop-number-preserved c =
    let book = c.args.book.now in
    let events = c.args.events.now in
    let caller = c.args.caller in
    let number = c.loop-number.number in
    let interval = c.interval_from-interval.result in
    let lane = c.loop-number.lane.items in
    let grown = c.in_ok-push.ensures.items in
    let made : ℕ → Call = λ n. record { caller = caller; number = n } in
    let named = c.interval_from-interval.ensures.call in
    record {
      count = omega (arith, c.in_ok-push.ensures.len, c.loop-number.invariant.count);
      prefix = subst (IsPrefixOf book events caller) (sym grown)
          (prefix_more book events caller lane interval c.loop-number.invariant.prefix
          (named ∙ ap made (sym c.loop-number.invariant.count))
          c.interval_from-interval.ensures.told);
      from = λ (is : IsCall book (made (number + 1))).
          invoked_from book events c.requires.sketch (made (number + 1)) interval.end is
          (λ k at. ends_before book events c.requires.valid c.requires.sketch interval
          (made (number + 1)) k c.interval_from-interval.ensures.told is at
          (inr
          (ap (λ (x : Call). x.caller) named, omega (arith, ap (λ (x : Call). x.number) named))));
    }

pub returns : goal.returns
returns c =
    prefix_whole c.args.book.now c.args.events.now c.args.caller c.loop-number.lane.items
    c.loop-number.invariant.prefix
    (omega (arith, c.loop-number.invariant.count, c.calls-number-end.ensures))
