use Rattle.std.specs.Arc.{arc_value}
use Rattle.book_base.specs.Order.{HasLegalOrder}
use Rattle.seq_objects.specs.Objects.{kind_spec}
use Rattle.monitor.specs.Monitors.{own_of}
use Rattle.announced_calls.specs.Outside.{every_reply}
use Rattle.call_handles.proofs.Watched.{has_none}
use Rattle.call_handles.proofs.monitor_handle.MonitorHandle.new.Goals as goal

pub returns-clause-sound : goal.returns-clause-sound
returns-clause-sound c =
    let kind = c.args.kind in
    let monitor = c.new-monitor in
    record {
      of = monitor.ensures.monitor every_reply (arc_value c.args.rows) c.requires.caller;
      on = monitor.ensures.board;
      stands = tt;
      none = has_none (λ w. ¬ HasLegalOrder (kind_spec kind) w.book)
          (own_of monitor.result) monitor.ensures.nothing.0;
    }
