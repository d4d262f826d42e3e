use Rattle.std.proofs.Common.{◌∙◌, None, get_or, sym}
use Rattle.queue_pairs.specs.Tables.{put_at}
use Rattle.queue_refutation.proofs.Entries.{entry-some, put-named, put-none}
use Rattle.queue_refutation.proofs.dead_ends.DeadEnds.putter_leads.Goals as goal

pub put_leads-requires-clause-put : goal.put_leads-requires-clause-put
put_leads-requires-clause-put c =
    entry-some (λ i n. put_at c.args.self.now.table.now i n) c.args.standing.now.puts c.args.caller
    (get_or c.args.next_entries.now.puts c.args.caller None) c.in-Some.put c.requires.caller
    (c.requires.next_entries.puts c.args.caller c.requires.caller)
    (sym c.put.ensures ∙ c.in-Some.is)

pub returns-in-Some : goal.returns-in-Some
returns-in-Some c told reading book pair is own may =
    let named = put-named reading book c.args.self.now.table.now c.args.standing.now c.args.caller
    (get_or c.args.next_entries.now.puts c.args.caller None) c.in-Some.put pair is
    (c.requires.next_entries.puts c.args.caller c.requires.caller)
    (sym c.put.ensures ∙ c.in-Some.is) own may in
    c.put_leads.ensures told reading book pair is named may

pub returns-in-None : goal.returns-in-None
returns-in-None c told reading book pair is own may =
    absurd (put-none reading book c.args.self.now.table.now c.args.standing.now c.args.caller
    (get_or c.args.next_entries.now.puts c.args.caller None) pair is
    (c.requires.next_entries.puts c.args.caller c.requires.caller)
    (sym c.put.ensures ∙ c.in-None.is) own may)
