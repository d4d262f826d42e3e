use Rattle.std.proofs.Common.{refl}
use Rattle.watch_core.proofs.Taken.{taken_none}
use Rattle.watch_core.proofs.watch.Watch.new.Goals as goal

pub returns-clause-fresh : goal.returns-clause-fresh
returns-clause-fresh c later = taken_none (record {
  kind = c.args.kind;
  limit = c.args.limit;
  taken = 0;
  seen = 0;
  calls = c.new.result.items;
  parts = c.new-2.result.entries;
  last = _;
}) later refl refl c.new.ensures.items c.new-2.ensures.empty refl
