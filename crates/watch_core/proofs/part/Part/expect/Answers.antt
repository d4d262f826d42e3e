use Rattle.std.proofs.Common.{◌≡◌, ◌∙◌, ℕ, List, map, Some, slice_get, slice_set, ap, subst}
use Rattle.std.proofs.lemmas.Option.{get_or_from_slice_get}
use Rattle.streams.specs.Stream.{StreamEvent}
use Rattle.late_residue.specs.declared.open_call.OpenCall.{OpenCall}
use Rattle.late_residue.specs.Reached.{Has}
use Rattle.late_residue.specs.Known.{MayHaveReply, with_reply}
use Rattle.late_residue.specs.LateOnes.{AreLate}
use Rattle.watch_core.specs.Part.{IsTold}
use Rattle.watch_core.proofs.Partly.{part, part_told}
use Rattle.watch_core.proofs.part.Part.expect.Goals as goal

pub returns-in-Some : goal.returns-in-Some
returns-in-Some c spec =
    let i = c.self.inside in
    let at = c.in-Some.at in
    let reply = c.args.reply in
    let found = c.in-Some.ensures.some in
    let there = subst (λ (l : List OpenCall). slice_get l at ≡ Some found.0) c.deref.ensures.value
    found.1 in
    let item : c.index_mut.result.now ≡ found.0 = c.index_mut.ensures.value
    ∙ get_or_from_slice_get i.calls.items at found.0 _ there in
    let read : c.index.result.now ≡ found.0 = c.index.ensures
    ∙ get_or_from_slice_get i.calls.items at found.0 _ there in
    let revealed = subst (λ (n : ℕ). (events : List StreamEvent) (one : OpenCall)
    → Has i.calls.items one → one.call ≡ n → ((other : OpenCall) → Has i.calls.items other
    → other.call ≡ n → MayHaveReply other reply) → AreLate spec events i.calls.items i.residue
    → AreLate spec events (map (with_reply n reply) i.calls.items) c.reveal.new.self)
    (ap (λ (o : OpenCall). o.call) read)
    (λ events one. c.reveal.ensures spec events i.calls.items one) in
    let now = slice_set i.calls.items at (record c.index_mut.result.now { reply = Some reply }) in
    subst
    (λ p. IsTold spec c.args.process reply (Some p) (Some (part i.taken now c.reveal.new.self)))
    c.self.view_is
    (part_told spec i.taken i.calls.items i.residue at c.args.process reply found.0 now
    c.reveal.new.self there found.2 found.3
    (ap (λ (o : OpenCall). slice_set i.calls.items at (record o { reply = Some reply })) item)
    revealed)
