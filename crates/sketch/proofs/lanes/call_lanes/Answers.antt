use Rattle.std.proofs.Common.{◌≡◌, ℕ, ◌<◌, ◌+◌, List, Vec, [], length, get_or, sym, subst, arith}
use Rattle.std.specs.declared.alloc.Global.{Global}
use Rattle.sketch.specs.declared.interval.Interval.{Interval}
use Rattle.sketch.specs.Intervals.{rows_of, IsLaneOf}
use Rattle.sketch.proofs.LaneLemmas.{AreLanesOf, lanes_more, stand_on_their_lanes, have_one_each, are_told, lie_within, are_apart, meet}
use Rattle.sketch.proofs.lanes.call_lanes.Goals as goal

pub loop-caller-preserved : goal.loop-caller-preserved
loop-caller-preserved c =
    let book = c.args.book.now in
    let events = c.args.events.now in
    let n = c.loop-caller.caller in
    let grown = c.in_ok-push.ensures.items in
    let more = lanes_more book events c.loop-caller.lanes.items c.in_ok-lane.field-0 n
    c.loop-caller.invariant.count c.loop-caller.invariant.own c.in_ok-lane.ensures in
    record {
      count = subst (λ (lanes : List (Vec Interval Global)). length (rows_of lanes) ≡ n + 1)
          (sym grown) more.0;
      own = subst (λ (lanes : List (Vec Interval Global)). (i : ℕ) → i < n + 1
          → IsLaneOf book events i (get_or (rows_of lanes) i [])) (sym grown) more.1;
    }

-- all callers have their lanes
whole : (c : goal.After-loop-caller)
    → AreLanesOf c.args.book.now c.args.events.now (rows_of c.loop-caller.lanes.items)
whole c = record {
  callers = omega (arith, c.loop-caller.invariant.count, c.callers-caller-end.ensures.count);
  own =
      λ i less. c.loop-caller.invariant.own i (omega (arith, less, c.loop-caller.invariant.count));
}

pub returns-clause-own : goal.returns-clause-own
returns-clause-own c = stand_on_their_lanes c.args.book.now c.args.events.now
    (rows_of c.loop-caller.lanes.items) (whole c)

pub returns-clause-once : goal.returns-clause-once
returns-clause-once c =
    have_one_each c.args.book.now c.args.events.now (rows_of c.loop-caller.lanes.items) (whole c)

pub returns-clause-told : goal.returns-clause-told
returns-clause-told c =
    are_told c.args.book.now c.args.events.now (rows_of c.loop-caller.lanes.items) (whole c)

pub returns-clause-within : goal.returns-clause-within
returns-clause-within c = lie_within c.args.book.now c.args.events.now
    (rows_of c.loop-caller.lanes.items) c.callers-caller-end.ensures.valid c.requires (whole c)

pub returns-clause-apart : goal.returns-clause-apart
returns-clause-apart c = are_apart c.args.book.now c.args.events.now
    (rows_of c.loop-caller.lanes.items) c.callers-caller-end.ensures.valid c.requires (whole c)

pub returns-clause-meet : goal.returns-clause-meet
returns-clause-meet c =
    meet c.args.book.now c.args.events.now (rows_of c.loop-caller.lanes.items) c.requires (whole c)
