use Rattle.std.proofs.Common.{subst}
use Rattle.book_base.specs.Order.{HasLegalOrder}
use Rattle.seq_objects.specs.Objects.{kind_spec}
use Rattle.row_table.specs.declared.rows.Rows.{Rows}
use Rattle.monitor.specs.Monitors.{local_of, own_of, IsMonitorOf}
use Rattle.announced_calls.specs.Outside.{every_reply}
use Rattle.call_handles.specs.Monitors.{IsRightOfRound}
use Rattle.call_handles.proofs.Watched.{has_none, none_after, right_of_round}
use Rattle.call_handles.proofs.rounds.round_counted.Goals as goal

pub returns-in-Ok-Legal-clause-sound : goal.returns-in-Ok-Legal-clause-sound
returns-in-Ok-Legal-clause-sound g c =
    let h = c.args.handle.now in
    let m = c.round_after.new.self in
    record {
      of = subst (λ (r : Rows _). IsMonitorOf every_reply r m) c.deref.ensures
          c.round_after.ensures.later.monitor;
      on = c.round_after.ensures.later.on;
      stands = c.round_after.ensures.stands;
      none = none_after (kind_spec h.kind) c.deref.result.now.callers
          (local_of h.monitor) (local_of m) (own_of m) _ c.in-Ok-Legal.ensures.found;
    }

pub returns-in-Ok-Legal-clause-judged : goal.returns-in-Ok-Legal-clause-judged
returns-in-Ok-Legal-clause-judged g c =
    let h = c.args.handle.now in
    let m = c.round_after.new.self in (
      c.in-Ok-Legal.field-0-0,
      subst (IsRightOfRound h m) c.in-Ok-Legal.field-0-is
          (right_of_round h m c.deref.result.now _ c.deref.ensures
          c.round_after.ensures.later.monitor c.in-Ok-Legal.ensures.found),
    )

pub returns-in-Ok-Illegal-clause-sound : goal.returns-in-Ok-Illegal-clause-sound
returns-in-Ok-Illegal-clause-sound g c =
    let h = c.args.handle.now in
    let m = c.round_after.new.self in
    record {
      of = subst (λ (r : Rows _). IsMonitorOf every_reply r m) c.deref.ensures
          c.round_after.ensures.later.monitor;
      on = c.round_after.ensures.later.on;
      stands = c.round_after.ensures.stands;
      none = none_after (kind_spec h.kind) c.deref.result.now.callers
          (local_of h.monitor) (local_of m) (own_of m) _ c.in-Ok-Illegal.ensures.found;
    }

pub returns-in-Ok-Illegal-clause-judged : goal.returns-in-Ok-Illegal-clause-judged
returns-in-Ok-Illegal-clause-judged g c =
    let h = c.args.handle.now in
    let m = c.round_after.new.self in (
      c.in-Ok-Illegal.field-0-0,
      subst (IsRightOfRound h m) c.in-Ok-Illegal.field-0-is
          (right_of_round h m c.deref.result.now _ c.deref.ensures
          c.round_after.ensures.later.monitor c.in-Ok-Illegal.ensures.found),
    )

pub returns-clause-sound : goal.returns-clause-sound
returns-clause-sound g c =
    let h = c.args.handle.now in
    let m = c.round_after.new.self in
    record {
      of = subst (λ (r : Rows _). IsMonitorOf every_reply r m) c.deref.ensures
          c.round_after.ensures.later.monitor;
      on = c.round_after.ensures.later.on;
      stands = c.round_after.ensures.stands;
      none = has_none (λ w. ¬ HasLegalOrder (kind_spec h.kind) w.book)
          (own_of m) c.in-Err.ensures.err;
    }
