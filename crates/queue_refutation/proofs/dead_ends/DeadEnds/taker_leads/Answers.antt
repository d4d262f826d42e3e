use Rattle.std.proofs.Common.{◌∙◌, None, get_or, sym}
use Rattle.queue_pairs.specs.Tables.{take_at}
use Rattle.queue_refutation.proofs.Entries.{entry-some, take-named, take-none}
use Rattle.queue_refutation.proofs.dead_ends.DeadEnds.taker_leads.Goals as goal

pub calls_lead-requires-clause-take : goal.calls_lead-requires-clause-take
calls_lead-requires-clause-take c =
    entry-some (λ i n. take_at c.args.self.now.table.now i n) c.args.standing.now.takes
    c.args.caller (get_or c.args.next_entries.now.takes c.args.caller None) c.in-Some.take
    c.requires.caller (c.requires.next_entries.takes c.args.caller c.requires.caller)
    (sym c.take.ensures ∙ c.in-Some.is)

pub returns-in-Some : goal.returns-in-Some
returns-in-Some c told reading book pair is of may =
    let named = take-named reading book c.args.self.now.table.now c.args.standing.now c.args.caller
    (get_or c.args.next_entries.now.takes c.args.caller None) c.in-Some.take pair is
    (c.requires.next_entries.takes c.args.caller c.requires.caller)
    (sym c.take.ensures ∙ c.in-Some.is) of.1 may in
    c.calls_lead.ensures told reading book pair is (of.0, named) may

pub returns-in-None : goal.returns-in-None
returns-in-None c told reading book pair is of may =
    absurd (take-none reading book c.args.self.now.table.now c.args.standing.now c.args.caller
    (get_or c.args.next_entries.now.takes c.args.caller None) pair is
    (c.requires.next_entries.takes c.args.caller c.requires.caller)
    (sym c.take.ensures ∙ c.in-None.is) of.1 may)
