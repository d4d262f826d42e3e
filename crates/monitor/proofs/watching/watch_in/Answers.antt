use Rattle.run_report.proofs.Places.{written_back}
use Rattle.monitor.proofs.watching.watch_in.Goals as goal

pub returns-clause-done : goal.returns-clause-done
returns-clause-done g c = written_back _ _ _ _ _ c.as_mut_slice.ensures.value
    c.as_mut_slice.ensures.len c.watch_beside.ensures.done
