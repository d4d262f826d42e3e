use Rattle.std.proofs.Common.{◌≡◌, ◌∙◌, ℕ, ◌<◌, List, Some, true, false, slice_get, refl, sym, ap, subst}
use Rattle.std.proofs.lemmas.Option.{slice_get_within, get_or_from_slice_get}
use Rattle.seq_objects.specs.Objects.{kind_spec}
use Rattle.late_residue.specs.declared.open_call.OpenCall.{OpenCall}
use Rattle.late_residue.specs.Reached.{Has}
use Rattle.stream_locality.specs.KindKeys.{key_of_kind}
use Rattle.watch_core.specs.Parts.{AreTold}
use Rattle.watch_core.specs.Watch.{HasTaken}
use Rattle.watch_core.proofs.Taken.{waits_not, waits_now, taken_told}
use Rattle.watch_core.proofs.watch.Watch.expect.Goals as goal

pub index-requires : goal.index-requires
index-requires c =
    let found = c.in-Some.ensures.some in
    subst (λ (n : ℕ). c.in-Some.at < n) c.deref.ensures.len
    (slice_get_within c.deref.result.now c.in-Some.at found.0 found.1)

pub returns-clause-expected : goal.returns-clause-expected
returns-clause-expected c stream later near far has split reached expected =
    let i = c.self.inside in
    let at = c.in-Some.at in
    let process = c.args.process in
    let reply = c.args.reply in
    let taken = subst (λ w. HasTaken w stream later) (sym c.self.view_is) has in
    let found = c.in-Some.ensures.some in
    let there = subst (λ (l : List OpenCall). slice_get l at ≡ Some found.0) c.deref.ensures.value
    found.1 in
    let read : c.index.result.now ≡ found.0 = c.index.ensures
    ∙ get_or_from_slice_get i.calls.items at found.0 _ there in
    taken_told i.kind i.limit i.taken i.seen i.calls.items i.parts.entries i.last stream later near
    far at process reply c.args.by found.0 c.greater-self-inside.result
    c.expect_in.new.parts.entries taken there found.2 found.3 split reached expected
    c.greater-self-inside.ensures
    (subst (λ (k : ℕ). AreTold (kind_spec i.kind) k process reply i.parts.entries
    c.expect_in.new.parts.entries)
    (c.key_of.ensures ∙ ap (λ (o : OpenCall). key_of_kind i.kind o.op) read)
    (c.expect_in.ensures (kind_spec i.kind)))

pub returns-in_default-clause-answer : goal.returns-in_default-clause-answer
returns-in_default-clause-answer c stream later has =
    let i = c.self.inside in
    let taken = subst (λ w. HasTaken w stream later) (sym c.self.view_is) has in (
      λ (e : false ≡ true). absurd cc,
      λ waits. absurd (waits_not i.kind i.limit i.taken i.seen i.calls.items i.parts.entries i.last
          stream later taken c.args.process (λ one there. c.in_default.ensures.none one
          (subst (λ (l : List OpenCall). Has l one) (sym c.deref.ensures.value) there)) waits),
    )

pub returns-clause-answer : goal.returns-clause-answer
returns-clause-answer c stream later has =
    let i = c.self.inside in
    let taken = subst (λ w. HasTaken w stream later) (sym c.self.view_is) has in
    let found = c.in-Some.ensures.some in
    let there = subst (λ (l : List OpenCall). slice_get l c.in-Some.at ≡ Some found.0)
    c.deref.ensures.value found.1 in (
      λ is. waits_now i.kind i.limit i.taken i.seen i.calls.items i.parts.entries i.last stream
          later taken c.in-Some.at c.args.process found.0 there found.2 found.3,
      λ waits. refl,
    )
