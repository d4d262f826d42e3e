use Rattle.std.proofs.Common.{◌∙◌, sym}
use Rattle.run_report.proofs.worker.WorkerWorkShared.work.Goals as goal

pub returns : goal.returns
returns g c = record {
  before = c.in-Some.client;
  after = c.run_counted-client.result;
  was = sym c.take.ensures.value ∙ c.in-Some.is;
  is = c.replace.ensures.after;
  work = c.run_counted-client.ensures.work;
  same = c.run_counted-client.ensures.same;
  spent = c.run_counted-client.ensures.spent;
}
