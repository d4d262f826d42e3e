use Rattle.std.proofs.Common.{◌∙◌, List, ◌++◌, take, drop, sym, subst}
use Rattle.seq_objects.specs.Objects.{kind_spec}
use Rattle.streams.specs.Stream.{StreamEvent}
use Rattle.streams.specs.StreamOrder.{HasLegalStreamOrder}
use Rattle.watch_core.specs.Verdict.{IsUnsureAt}
use Rattle.windowed_watch.specs.Ahead.{events_of}
use Rattle.windowed_watch.proofs.Further.{illegal_whole}
use Rattle.windowed_watch.proofs.Logs.{parted}
use Rattle.windowed_watch.proofs.Finding.{settled}
use Rattle.windowed_watch.proofs.lookahead.Lookahead.settle.Goals as goal

pub returns-in_err-renew-in-Legal-clause-running : goal.returns-in_err-renew-in-Legal-clause-running
returns-in_err-renew-in-Legal-clause-running c stream runs =
    let a = c.args.self.now in
    let events = events_of a.log.items in
    c.renew.ensures.running stream (settled a stream c.requires.within runs
    (c.in-Legal.ensures (runs.before ++ take a.taken events) (drop a.taken events) runs.watch).1)

pub returns-in_ok-renew-in-Legal-clause-running : goal.returns-in_ok-renew-in-Legal-clause-running
returns-in_ok-renew-in-Legal-clause-running c stream runs =
    let a = c.args.self.now in
    let events = events_of a.log.items in
    c.renew.ensures.running stream (settled a stream c.requires.within runs
    (c.in-Legal.ensures (runs.before ++ take a.taken events) (drop a.taken events) runs.watch).1)

pub returns-in_ok-find-in-Illegal-clause-last : goal.returns-in_ok-find-in-Illegal-clause-last
returns-in_ok-find-in-Illegal-clause-last c stream runs count =
    let a = c.args.self.now in
    let spec = kind_spec a.watch.kind in
    let events = events_of a.log.items in
    let front = runs.before ++ take a.taken events in
    let later = drop a.taken events in
    c.in_ok-find-in-Illegal.ensures.found stream runs
    (λ (has : HasLegalStreamOrder spec stream).
    illegal_whole spec (front ++ later) c.in-Illegal.field-0 c.in-Illegal.field-1
    (c.in-Illegal.ensures front later runs.watch)
    (subst (λ (s : List StreamEvent). HasLegalStreamOrder spec s)
    (runs.whole ∙ sym (parted runs.before a.taken events)) has)) count

pub returns-in-Unsure-clause-last : goal.returns-in-Unsure-clause-last
returns-in-Unsure-clause-last c stream runs count =
    let a = c.args.self.now in
    let events = events_of a.log.items in
    subst (λ (s : List StreamEvent).
    IsUnsureAt a.watch.kind a.watch.limit s c.in-Unsure.number)
    (parted runs.before a.taken events ∙ sym runs.whole)
    (c.in-Unsure.ensures (runs.before ++ take a.taken events) (drop a.taken events) runs.watch)
