use Rattle.std.proofs.Common.{ℕ, ◌≤◌, inl, inr, subst, arith}
use Rattle.queue_pairs.specs.declared.TheConstants.{NEVER}
use Rattle.queue_refutation.specs.Closed.{IsOnePaired}
use Rattle.queue_refutation.specs.DeadEnds.{listed}
use Rattle.queue_refutation.proofs.Passing.{finds-none, finds-some, is-overdue}
use Rattle.queue_refutation.proofs.dead_ends.DeadEnds.finds_lead.Goals as goal

pub returns-then-next_entries-ge-NEVER : goal.returns-then-next_entries-ge-NEVER
returns-then-next_entries-ge-NEVER c told reading book m is may =
    finds-none reading book c.args.self.now.table.now c.args.standing.now c.args.next_entries.now _
    m is c.requires.next_entries (omega arith)

pub returns-then-is_past : goal.returns-then-is_past
returns-then-is_past c told reading book m is may =
    let g : ℕ = c.max-moment.result in
    let few : g ≤ NEVER = omega (arith, c.max-moment.ensures, c.requires.few) in
    finds-some reading book c.args.self.now.table.now c.args.standing.now c.args.next_entries.now _
    g m is c.requires.next_entries (omega arith) c.max-moment.ensures may
    (inr
    (is-overdue reading book c.args.self.now.table.now c.args.standing.now c.args.next_entries.now g
    g is c.requires.next_entries few few (c.is_past.ensures.0 c.if-is_past.true)))

pub returns : goal.returns
returns c told reading book m is may =
    let keys = c.args.self.now.standings.now.keys in
    finds-some reading book c.args.self.now.table.now c.args.standing.now c.args.next_entries.now
    (listed keys) c.max-moment.result m is c.requires.next_entries
    (omega arith) c.max-moment.ensures may
    (inl (subst (IsOnePaired (listed keys)) c.with_finds.ensures (c.has.ensures told)))
