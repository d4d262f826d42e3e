use Rattle.std.proofs.Common.{◌≡◌, ◌∙◌, ℕ, ◌<◌, List, [], ◌∷◌, ◌++◌, Some, slice_get, sym, subst}
use Rattle.std.proofs.lemmas.Option.{slice_get_within, get_or_from_slice_get}
use Rattle.streams.specs.Stream.{StreamEvent, Returned}
use Rattle.seq_objects.specs.Objects.{kind_spec}
use Rattle.late_residue.specs.declared.open_call.OpenCall.{OpenCall}
use Rattle.late_residue.specs.Reached.{Has}
use Rattle.late_residue.specs.LateOnes.{AreOpen, AreLate, IsBeyond}
use Rattle.watch_core.specs.Part.{IsPartOf, TakesEvent}
use Rattle.watch_core.proofs.Partly.{part, part_return, part_idle}
use Rattle.watch_core.proofs.part.Part.take_return.Goals as goal

pub returns-in_default-clause-taken : goal.returns-in_default-clause-taken
returns-in_default-clause-taken c allowed =
    let i = c.self.inside in
    subst (λ p. TakesEvent (kind_spec c.args.kind) (Returned c.args.process c.args.reply) (Some p)
    (Some p)) c.self.view_is
    (part_idle (kind_spec c.args.kind) i.taken i.calls.items i.residue
    (Returned c.args.process c.args.reply) i.taken tt
    (λ one there. c.in_default.ensures.none one
    (subst (λ (l : List OpenCall). Has l one) (sym c.deref.ensures.value) there)))

pub index-requires : goal.index-requires
index-requires c =
    let found = c.in-Some.ensures.some in
    subst (λ (n : ℕ). c.in-Some.at < n) c.deref.ensures.len
    (slice_get_within c.deref.result.now c.in-Some.at found.0 found.1)

pub remove-requires : goal.remove-requires
remove-requires c =
    let found = c.in-Some.ensures.some in
    subst (λ (n : ℕ). c.in-Some.at < n) c.deref.ensures.len
    (slice_get_within c.deref.result.now c.in-Some.at found.0 found.1)

pub returns-then-all-clause-taken : goal.returns-then-all-clause-taken
returns-then-all-clause-taken c allowed =
    let i = c.self.inside in
    let at = c.in-Some.at in
    let spec = kind_spec c.args.kind in
    let process = c.args.process in
    let reply = c.args.reply in
    let next = c.saturating_add-self-inside.result in
    let found = c.in-Some.ensures.some in
    let there = subst (λ (l : List OpenCall). slice_get l at ≡ Some found.0) c.deref.ensures.value
    found.1 in
    let read : c.index.result.now ≡ found.0 = c.index.ensures
    ∙ get_or_from_slice_get i.calls.items at found.0 _ there in
    subst (λ p. TakesEvent spec (Returned process reply) (Some p)
    (Some (part next c.remove.new.self.items c.take_return.new.self))) c.self.view_is
    (part_return spec i.taken i.calls.items i.residue at process reply next found.0
    c.index.result.now c.remove.new.self.items c.take_return.new.self there found.2 found.3 read
    c.remove.ensures.items c.saturating_add-self-inside.ensures
    (λ events waiting is_open has waits may valid late.
    subst (λ (l : List OpenCall).
    AreLate spec (events ++ Returned waiting reply ∷ []) l c.take_return.new.self)
    c.deref-2.ensures.value
    (c.in_ok-all.ensures.after allowed events waiting
    (subst (λ (l : List OpenCall). AreOpen events l) (sym c.deref-2.ensures.value) is_open)
    (subst (λ (l : List OpenCall). Has l c.index.result.now) (sym c.deref-2.ensures.value) has)
    waits may valid
    (subst (λ (l : List OpenCall). AreLate spec events l i.residue)
    (sym c.deref-2.ensures.value) late))))

pub returns-else-all-clause-beyond : goal.returns-else-all-clause-beyond
returns-else-all-clause-beyond c refused =
    let i = c.self.inside in
    let spec = kind_spec c.args.kind in
    subst (λ p. (events : List StreamEvent) → IsPartOf spec p events
    → IsBeyond spec events p.calls c.args.limit) c.self.view_is
    (λ events is. subst (λ (l : List OpenCall). IsBeyond spec events l c.args.limit)
    c.deref-2.ensures.value
    (c.in_ok-all.ensures.beyond refused events
    (subst (λ (l : List OpenCall). AreOpen events l) (sym c.deref-2.ensures.value)
    is.table.are_open)
    (subst (λ (l : List OpenCall). AreLate spec events l i.residue)
    (sym c.deref-2.ensures.value) is.late)))
