use Rattle.std.proofs.Common.{◌≡◌, ◌∙◌, ◌+◌, ◌<◌, ◌^◌, List, ◌∷◌, Some, slice_get, refl, sym, subst}
use Rattle.streams.specs.Stream.{Called}
use Rattle.late_residue.specs.declared.open_call.OpenCall.{OpenCall}
use Rattle.late_residue.specs.Reached.{Has}
use Rattle.watch_core.specs.Watch.{HasTaken}
use Rattle.watch_core.proofs.Partly.{pushed}
use Rattle.watch_core.proofs.Taken.{some_there, none_there, waits_now, taken_call}
use Rattle.watch_core.proofs.watch.Watch.take_call.Goals as goal

pub returns-then-is_some-clause-refused : goal.returns-then-is_some-clause-refused
returns-then-is_some-clause-refused c stream later has =
    let i = c.self.inside in
    let taken = subst (λ w. HasTaken w stream later) (sym c.self.view_is) has in
    let found = some_there _ c.pending.result (sym c.is_some.ensures ∙ c.if-is_some.true)
    c.pending.ensures.some in
    let there = subst (λ (l : List OpenCall). slice_get l found.0 ≡ Some found.1.0)
    c.deref.ensures.value found.1.1 in (
      (c.args.process, c.args.op, refl),
      waits_now i.kind i.limit i.taken i.seen i.calls.items i.parts.entries i.last
          stream later taken
          found.0 c.args.process found.1.0 there found.1.2 found.1.3,
    )

pub returns-clause-taken : goal.returns-clause-taken
returns-clause-taken c stream later has =
    let i = c.self.inside in
    let taken = subst (λ w. HasTaken w stream (Called c.args.process c.args.op ∷ later))
    (sym c.self.view_is) has in
    let none = none_there _ c.pending.result (sym c.is_some.ensures ∙ c.if-is_some.false)
    c.pending.ensures.none in
    taken_call i.kind i.limit i.taken i.seen i.calls.items i.parts.entries i.last stream later
    c.args.process c.args.op taken c.push.new.self.items c.greater-self-inside.result
    c.note_call.new.parts.entries
    (λ one there.
    none one (subst (λ (l : List OpenCall). Has l one) (sym c.deref.ensures.value) there))
    (pushed c.push.result c.push.new.self.items _ c.self.inside.calls.items
    (sym c.is_err.ensures.value ∙ c.if-is_err.false) c.push.ensures.items)
    c.greater-self-inside.ensures
    (subst (λ w. w.taken + 1 < 2 ^ 64) (sym c.self.view_is) c.requires) c.in_default.ensures.taken
