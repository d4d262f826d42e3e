use Rattle.std.proofs.Common.{◌≡◌, ◌∙◌, ◌+◌, ◌-◌, ◌^◌, min, List, Some, true, slice_get, slice_set, sym, ap, subst}
use Rattle.std.proofs.lemmas.Option.{get_or_from_slice_get}
use Rattle.streams.specs.Stream.{Lost}
use Rattle.late_residue.specs.declared.open_call.OpenCall.{OpenCall}
use Rattle.late_residue.specs.Reached.{Has}
use Rattle.watch_core.specs.Part.{TakesEvent}
use Rattle.watch_core.proofs.Partly.{part, part_loss, part_idle}
use Rattle.watch_core.proofs.part.Part.lose.Goals.{in-Some, in_default}
use Rattle.watch_core.proofs.part.Part.lose.Goals as goal

pub returns : goal.returns
returns c spec =
    let i = c.self.inside in
    let next = c.saturating_add-self-inside.result in
    let process = c.args.process in
    elim c.match-pending.branch [
      | in-Some w ↦
          let at = w.in-Some.at in
          let found = w.in-Some.ensures.some in
          let there = subst (λ (l : List OpenCall). slice_get l at ≡ Some found.0)
          c.deref.ensures.value found.1 in
          let item : w.index_mut.result.now ≡ found.0 = w.index_mut.ensures.value
          ∙ get_or_from_slice_get i.calls.items at found.0 _ there in
          let now = slice_set i.calls.items at (record w.index_mut.result.now { is_lost = true }) in
          let further : next ≡ min (i.taken + 1) (2 ^ 64 - 1) =
          c.saturating_add-self-inside.ensures
          ∙ ap (λ s. min (s.taken + 1) (2 ^ 64 - 1)) w.self-inside-is in
          subst (λ p. TakesEvent spec (Lost process) (Some p)
          (Some (part next c.match-pending.self-inside.calls.items
          c.match-pending.self-inside.residue))) c.self.view_is
          (subst (λ s. TakesEvent spec (Lost process) (Some (part i.taken i.calls.items i.residue))
          (Some (part next s.calls.items s.residue))) (sym w.self-inside-is)
          (part_loss spec i.taken i.calls.items i.residue at process next found.0 now there found.2
          found.3
          (ap (λ (o : OpenCall). slice_set i.calls.items at (record o { is_lost = true })) item)
          further))
      | in_default w ↦
          subst (λ p. TakesEvent spec (Lost process) (Some p)
          (Some (part next c.match-pending.self-inside.calls.items
          c.match-pending.self-inside.residue))) c.self.view_is
          (subst (λ s. TakesEvent spec (Lost process) (Some (part i.taken i.calls.items i.residue))
          (Some (part next s.calls.items s.residue))) (sym w.self-inside-is)
          (part_idle spec i.taken i.calls.items i.residue (Lost process) next tt
          (λ one there. w.in_default.ensures.none one
          (subst (λ (l : List OpenCall). Has l one) (sym c.deref.ensures.value) there))))
    ]
