use Rattle.monitor.specs.Monitors.{own_of}
use Rattle.call_handles.specs.Monitors.{IsLegalFor}
use Rattle.call_handles.proofs.Watched.{own_has}
use Rattle.call_handles.proofs.monitor_handle.MonitorHandle.witness.Goals as goal

pub returns-in_ok-write_book-in-Some-clause-text : goal.returns-in_ok-write_book-in-Some-clause-text
returns-in_ok-write_book-in-Some-clause-text c =
    let self = c.args.self.now in
    let w = c.in-Some.witness.now in (
      w,
      c.in-Some.ensures,
      c.in_ok-write_book-in-Some.ensures.read,
      own_has (λ v. ¬ IsLegalFor self v.book)
          (own_of self.monitor) w c.in-Some.ensures c.requires.sound.none,
    )
