use Rattle.std.proofs.Common.{◌∙◌, sym}
use Rattle.monitor.proofs.watch.WatchWorkWatched.work.Goals as goal

pub returns : goal.returns
returns g c = record {
  before = c.in-Some.monitor;
  after = c.make_alone-monitor.result.0;
  was = sym c.take.ensures.value ∙ c.in-Some.is;
  is = c.replace.ensures.after;
  round = c.make_alone-monitor.ensures;
}
