use Rattle.std.proofs.Common.{◌≡◌, ◌∙◌, sym, ap, subst}
use Rattle.std.specs.Option.{option_copied}
use Rattle.std.proofs.lemmas.Option.{none-some, same_Some}
use Rattle.queue_refutation.specs.DeadEnds.{listed, ClosedAt}
use Rattle.queue_refutation.proofs.dead_ends.DeadEnds.is_closed_at.Goals as goal

pub returns-in-Some : goal.returns-in-Some
returns-in-Some c told s at =
    let same : c.in-Some.standing.now ≡ s
    = same_Some c.in-Some.standing.now s
    (sym (ap option_copied c.in-Some.is) ∙ (c.get_index.ensures.key ∙ at)) in
    subst (ClosedAt c.args.self.now.table.now (listed c.args.self.now.standings.now.keys)) same
    (c.is_closed.ensures told)

pub returns-in-None : goal.returns-in-None
returns-in-None c told s at =
    absurd (none-some s (sym (ap option_copied c.in-None.is) ∙ (c.get_index.ensures.key ∙ at)))
