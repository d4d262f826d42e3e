use Rattle.std.proofs.Common.{◌∙◌, sym}
use Rattle.run_report.proofs.Settled.{released_spent}
use Rattle.run_report.proofs.worker.Worker.release.Goals as goal

pub returns-clause-spent : goal.returns-clause-spent
returns-clause-spent g c course i h =
    released_spent _ _ _ _ _ _ course i c.args.self.now _ c.unwrap-client.result c.release.result
    (sym c.take.ensures.value ∙ c.unwrap-client.ensures) c.replace.ensures.after
    c.release.ensures h

pub returns-clause-free : goal.returns-clause-free
returns-clause-free g c = record {
  client = c.release.result;
  here = c.replace.ensures.after;
  no_book = c.release.ensures.no_book;
  no_order = c.release.ensures.no_order;
}
