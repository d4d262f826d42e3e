use Rattle.std.proofs.Common.{◌∙◌, List, ◌++◌, sym, ap, subst}
use Rattle.late_residue.specs.declared.open_call.OpenCall.{OpenCall}
use Rattle.watch_core.specs.Watch.{HasTaken}
use Rattle.watch_core.proofs.Taken.{taken_copy}
use Rattle.watch_core.proofs.watch.Watch.copy.Goals as goal

pub returns-clause-taken : goal.returns-clause-taken
returns-clause-taken c stream later has =
    let i = c.self.inside in
    let taken = subst (λ w. HasTaken w stream later) (sym c.self.view_is) has in
    taken_copy i.kind i.limit i.taken i.seen i.calls.items i.parts.entries i.last stream later _ _
    taken (c.in_ok-extend_from_slice.ensures.items
    ∙ (ap (λ (l : List OpenCall). l ++ c.deref.result.now) c.in_ok-calls.ensures.items
    ∙ c.deref.ensures.value)) c.in_ok-copy_of.ensures
