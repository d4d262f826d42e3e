use Rattle.std.proofs.Common.{◌∙◌, None, get_or, sym}
use Rattle.queue_pairs.specs.Tables.{take_at}
use Rattle.queue_refutation.proofs.Entries.{entry-some}
use Rattle.queue_refutation.proofs.dead_ends.DeadEnds.taker_serves.Goals as goal

pub calls_serve-requires-clause-take : goal.calls_serve-requires-clause-take
calls_serve-requires-clause-take c =
    entry-some (λ i n. take_at c.args.self.now.table.now i n) c.args.standing.now.takes
    c.args.caller (get_or c.args.next_entries.now.takes c.args.caller None) c.in-Some.take
    c.requires.caller (c.requires.next_entries.takes c.args.caller c.requires.caller)
    (sym c.take.ensures ∙ c.in-Some.is)
