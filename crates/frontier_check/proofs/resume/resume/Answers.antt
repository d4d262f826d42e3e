use Rattle.std.proofs.Common.{◌≡◌, ℕ, ◌+◌, ◌<◌, ◌≤◌, ◌∙◌, List, length, take, slice_index_or, refl, sym, subst}
use Rattle.std.proofs.lemmas.List.{take-take}
use Rattle.frontier_check.specs.declared.kept_order.OrderMark.{OrderMark}
use Rattle.frontier_check.specs.Standing.{IsAsWide, StillStands, AreMarks}
use Rattle.frontier_check.proofs.Resuming.{marks_wide, marks_fit, marks_taken, marks_fewer, mark_resumed}
use Rattle.frontier_check.proofs.resume.resume.Goals as goal

pub last_standing-requires : goal.last_standing-requires
last_standing-requires g c =
    let object = c.args.object.now in
    let book = c.args.book.now in
    subst
    (λ (ms : List OrderMark). (k : ℕ) (m : OrderMark) → k < length ms → m ≡ slice_index_or ms k m
    → IsAsWide book m) (sym c.deref.ensures.value)
    (marks_wide (g.S.SeqObject.spec object) book c.args.order.items c.args.marks.now.items
    c.requires.marks)

pub prefix_at-requires-clause-len : goal.prefix_at-requires-clause-len
prefix_at-requires-clause-len g c =
    let object = c.args.object.now in
    let low = subst (λ (ms : List OrderMark). c.in-Some.index < length ms) c.deref.ensures.value
    c.in-Some.ensures.within in
    (marks_fit (g.S.SeqObject.spec object) c.args.book.now c.args.order.items c.args.marks.now.items
    c.requires.marks c.in-Some.index c.index.result.now low c.index.ensures
    c.in_ok-here-in-Some.here.room c.in_ok-here-in-Some.ensures).0

pub prefix_at-requires-clause-words : goal.prefix_at-requires-clause-words
prefix_at-requires-clause-words g c =
    let object = c.args.object.now in
    let low = subst (λ (ms : List OrderMark). c.in-Some.index < length ms) c.deref.ensures.value
    c.in-Some.ensures.within in
    (marks_fit (g.S.SeqObject.spec object) c.args.book.now c.args.order.items c.args.marks.now.items
    c.requires.marks c.in-Some.index c.index.result.now low c.index.ensures
    c.in_ok-here-in-Some.here.room c.in_ok-here-in-Some.ensures).1

pub returns-in_ok-found-in-Some-clause-put : goal.returns-in_ok-found-in-Some-clause-put
returns-in_ok-found-in-Some-clause-put g c =
    let object = c.args.object.now in
    let marks = c.args.marks.now.items in
    let low = subst (λ (ms : List OrderMark). c.in-Some.index < length ms) c.deref.ensures.value
    c.in-Some.ensures.within in
    let stands =
    subst (λ (ms : List OrderMark). (m : OrderMark) → m ≡ slice_index_or ms c.in-Some.index m
    → StillStands c.args.book.now m) c.deref.ensures.value c.in-Some.ensures.stands in
    mark_resumed (g.S.SeqObject.spec object) c.args.book.now
    c.args.order.items marks c.in-Some.index c.index.result.now c.in_ok-found-in-Some.found.0
    c.callers-callers.ensures.valid c.callers-callers.ensures.small low c.index.ensures
    c.requires.marks (stands c.index.result.now c.index.ensures)
    c.in_ok-found-in-Some.ensures.places c.in_ok-found-in-Some.ensures.cut
    c.in_ok-found-in-Some.ensures.words

pub returns-in_ok-found-in-Some-clause-marks : goal.returns-in_ok-found-in-Some-clause-marks
returns-in_ok-found-in-Some-clause-marks g c =
    let spec = g.S.SeqObject.spec c.args.object.now in
    let book = c.args.book.now in
    let marks = c.args.marks.now.items in
    let places = c.in_ok-found-in-Some.found.0.places.items in
    let low = subst (λ (ms : List OrderMark). c.in-Some.index < length ms) c.deref.ensures.value
    c.in-Some.ensures.within in
    let upto = marks_taken spec book c.args.order.items places marks
    (take (c.in-Some.index + 1) marks) c.in-Some.index c.index.result.now low c.index.ensures
    c.requires.marks c.in_ok-found-in-Some.ensures.places refl in
    let few : c.kept_of-kept.result ≤ c.in-Some.index + 1 = c.kept_of-kept.ensures in
    subst (λ (ms : List OrderMark). AreMarks spec book places 0 ms)
    (sym (c.truncate.ensures.items
    ∙ sym (take-take c.kept_of-kept.result (c.in-Some.index + 1) marks few)))
    (marks_fewer spec book places 0 c.kept_of-kept.result (take (c.in-Some.index + 1) marks)
    upto)

pub returns-in_ok-found-in-Some-clause-fewer : goal.returns-in_ok-found-in-Some-clause-fewer
returns-in_ok-found-in-Some-clause-fewer g c = (c.kept_of-kept.result, c.truncate.ensures.items)
