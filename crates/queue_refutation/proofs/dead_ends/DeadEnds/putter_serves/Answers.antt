use Rattle.std.proofs.Common.{◌∙◌, None, get_or, sym}
use Rattle.queue_pairs.specs.Tables.{put_at}
use Rattle.queue_refutation.proofs.Entries.{entry-some}
use Rattle.queue_refutation.proofs.dead_ends.DeadEnds.putter_serves.Goals as goal

pub put_serves-requires-clause-put : goal.put_serves-requires-clause-put
put_serves-requires-clause-put c =
    entry-some (λ i n. put_at c.args.self.now.table.now i n) c.args.standing.now.puts c.args.caller
    (get_or c.args.next_entries.now.puts c.args.caller None) c.in-Some.put c.requires.caller
    (c.requires.next_entries.puts c.args.caller c.requires.caller)
    (sym c.put.ensures ∙ c.in-Some.is)
