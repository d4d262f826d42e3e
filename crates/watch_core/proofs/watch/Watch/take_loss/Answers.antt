use Rattle.std.proofs.Common.{◌≡◌, ◌∙◌, ℕ, ◌+◌, ◌<◌, ◌^◌, List, ◌∷◌, Some, true, slice_get, slice_set, sym, ap, subst}
use Rattle.std.proofs.lemmas.Option.{slice_get_within, get_or_from_slice_get}
use Rattle.seq_objects.specs.Objects.{kind_spec}
use Rattle.streams.specs.Stream.{Lost}
use Rattle.late_residue.specs.declared.open_call.OpenCall.{OpenCall}
use Rattle.late_residue.specs.Reached.{Has}
use Rattle.stream_locality.specs.KindKeys.{key_of_kind}
use Rattle.watch_core.specs.Parts.{TakeEvent}
use Rattle.watch_core.specs.Watch.{HasTaken}
use Rattle.watch_core.proofs.Taken.{waits_not, taken_loss}
use Rattle.watch_core.proofs.watch.Watch.take_loss.Goals as goal

pub returns-in_default-clause-refused : goal.returns-in_default-clause-refused
returns-in_default-clause-refused c stream later has =
    let i = c.self.inside in
    let taken = subst (λ w. HasTaken w stream later) (sym c.self.view_is) has in (
      tt,
      waits_not i.kind i.limit i.taken i.seen i.calls.items i.parts.entries i.last
          stream later taken
          c.args.process
          (λ one there. c.in_default.ensures.none one
          (subst (λ (l : List OpenCall). Has l one) (sym c.deref.ensures.value) there)),
    )

pub index-requires : goal.index-requires
index-requires c =
    let found = c.in-Some.ensures.some in
    subst (λ (n : ℕ). c.in-Some.at < n) c.deref.ensures.len
    (slice_get_within c.deref.result.now c.in-Some.at found.0 found.1)

pub index_mut-requires : goal.index_mut-requires
index_mut-requires c =
    let found = c.in-Some.ensures.some in
    subst (λ (n : ℕ). c.in-Some.at < n) c.deref.ensures.len
    (slice_get_within c.deref.result.now c.in-Some.at found.0 found.1)

pub returns-clause-taken : goal.returns-clause-taken
returns-clause-taken c stream later has =
    let i = c.self.inside in
    let process = c.args.process in
    let taken = subst (λ w. HasTaken w stream (Lost process ∷ later)) (sym c.self.view_is) has in
    let found = c.in-Some.ensures.some in
    let there = subst (λ (l : List OpenCall). slice_get l c.in-Some.at ≡ Some found.0)
    c.deref.ensures.value found.1 in
    let item : c.index_mut.result.now ≡ found.0 = c.index_mut.ensures.value
    ∙ get_or_from_slice_get c.self.inside.calls.items c.in-Some.at found.0 _ there in
    let read : c.index.result.now ≡ found.0 = c.index.ensures
    ∙ get_or_from_slice_get c.self.inside.calls.items c.in-Some.at found.0 _ there in
    taken_loss i.kind i.limit i.taken i.seen i.calls.items i.parts.entries i.last stream later
    c.in-Some.at process found.0 taken _ c.greater-self-inside.result c.lose_in.new.parts.entries
    there found.2 found.3
    (ap (λ (o : OpenCall). slice_set c.self.inside.calls.items c.in-Some.at
    (record o { is_lost = true })) item) c.greater-self-inside.ensures
    (subst (λ w. w.taken + 1 < 2 ^ 64) (sym c.self.view_is) c.requires)
    (subst (λ (k : ℕ). TakeEvent (kind_spec i.kind) k (Lost process) i.parts.entries
    c.lose_in.new.parts.entries)
    (c.key_of.ensures ∙ ap (λ (o : OpenCall). key_of_kind i.kind o.op) read)
    (c.lose_in.ensures (kind_spec i.kind)))
