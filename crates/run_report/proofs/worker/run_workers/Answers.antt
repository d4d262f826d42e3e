use Rattle.run_report.proofs.Places.{written_back}
use Rattle.run_report.proofs.worker.run_workers.Goals as goal

pub returns : goal.returns
returns g c = written_back _ _ _ _ _ c.as_mut_slice.ensures.value c.as_mut_slice.ensures.len
    c.work_all.ensures
