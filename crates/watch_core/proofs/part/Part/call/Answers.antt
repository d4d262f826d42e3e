use Rattle.std.proofs.Common.{◌∙◌, Some, sym, subst}
use Rattle.streams.specs.Stream.{Called}
use Rattle.watch_core.specs.Part.{TakesEvent}
use Rattle.watch_core.proofs.Partly.{part, pushed, part_call}
use Rattle.watch_core.proofs.part.Part.call.Goals as goal

pub returns-clause-taken : goal.returns-clause-taken
returns-clause-taken c spec =
    let i = c.self.inside in
    let process = c.args.process in
    let next = c.saturating_add-self-inside.result in
    let now = c.push.new.self.items in
    subst
    (λ p. TakesEvent spec (Called process c.args.op) (Some p) (Some (part next now i.residue)))
    c.self.view_is
    (part_call spec i.taken i.calls.items i.residue process c.args.op next now
    (pushed c.push.result now _ i.calls.items (sym c.is_err.ensures.value ∙ c.if-is_err.false)
    c.push.ensures.items) c.saturating_add-self-inside.ensures)
