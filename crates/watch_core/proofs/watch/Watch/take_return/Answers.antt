use Rattle.std.proofs.Common.{◌≡◌, ◌∙◌, ℕ, ◌<◌, List, ◌∷◌, Some, slice_get, sym, ap, subst}
use Rattle.std.proofs.lemmas.Option.{slice_get_within, get_or_from_slice_get}
use Rattle.streams.specs.Stream.{Returned}
use Rattle.late_residue.specs.declared.open_call.OpenCall.{OpenCall}
use Rattle.late_residue.specs.Reached.{Has}
use Rattle.stream_locality.specs.KindKeys.{key_of_kind}
use Rattle.watch_core.specs.Parts.{IsNextOfKey}
use Rattle.watch_core.specs.Watch.{HasTaken}
use Rattle.watch_core.proofs.Taken.{waits_not, taken_return}
use Rattle.watch_core.proofs.watch.Watch.take_return.Goals as goal

pub returns-in_default-clause-refused : goal.returns-in_default-clause-refused
returns-in_default-clause-refused c stream later has =
    let i = c.self.inside in
    let taken = subst (λ w. HasTaken w stream later) (sym c.self.view_is) has in (
      tt,
      waits_not i.kind i.limit i.taken i.seen i.calls.items i.parts.entries i.last
          stream later taken
          c.args.process
          (λ one there. c.in_default.ensures.none one
          (subst (λ (l : List OpenCall). Has l one) (sym c.deref.ensures.value) there)),
    )

pub index-requires : goal.index-requires
index-requires c =
    let found = c.in-Some.ensures.some in
    subst (λ (n : ℕ). c.in-Some.at < n) c.deref.ensures.len
    (slice_get_within c.deref.result.now c.in-Some.at found.0 found.1)

pub remove-requires : goal.remove-requires
remove-requires c =
    let found = c.in-Some.ensures.some in
    subst (λ (n : ℕ). c.in-Some.at < n) c.deref.ensures.len
    (slice_get_within c.deref.result.now c.in-Some.at found.0 found.1)

pub returns-clause-taken : goal.returns-clause-taken
returns-clause-taken c stream later has =
    let i = c.self.inside in
    let at = c.in-Some.at in
    let process = c.args.process in
    let reply = c.args.reply in
    let taken = subst (λ w. HasTaken w stream (Returned process reply ∷ later))
    (sym c.self.view_is) has in
    let found = c.in-Some.ensures.some in
    let there = subst (λ (l : List OpenCall). slice_get l at ≡ Some found.0) c.deref.ensures.value
    found.1 in
    let read : c.index.result.now ≡ found.0 = c.index.ensures
    ∙ get_or_from_slice_get i.calls.items at found.0 _ there in
    taken_return i.kind i.limit i.taken i.seen i.calls.items i.parts.entries i.last stream later at
    process reply found.0 taken c.remove.new.self.items c.greater-self-inside.result
    c.judge.new.parts.entries c.in_ok-last.last there found.2 found.3 c.remove.ensures.items
    c.greater-self-inside.ensures
    (λ near far of_key. c.in_ok-last.ensures.held stream later near far
    (subst (λ (k : ℕ). IsNextOfKey i.kind k stream (Returned process reply))
    (sym (c.key_of.ensures ∙ ap (λ (o : OpenCall). key_of_kind i.kind o.op) read)) of_key))
