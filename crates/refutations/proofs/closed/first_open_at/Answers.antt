use Rattle.std.proofs.Common.{◌≡◌, ℕ, ◌∙◌, List, length, true≢false, refl, sym, ap, subst, inl, inr, arith}
use Rattle.std.proofs.lemmas.Bool.{cases_lt}
use Rattle.std.proofs.lemmas.Option.{same_Some}
use Rattle.book_base.specs.State.{Contents}
use Rattle.book_base.specs.Pruning.{IsLeast}
use Rattle.search_hints.specs.Marks.{MarksAllNext}
use Rattle.refutations.specs.Closed.{Item, LeadsInside, IsClosedAt}
use Rattle.refutations.specs.Stored.{item_of}
use Rattle.refutations.proofs.Leading.{leads-never, closed_at, not_whole}
use Rattle.refutations.proofs.closed.first_open_at.Goals.{else-has-via-then-has+in_ok-leads_inside+else-not-branch, else-has-via-else-has}
use Rattle.refutations.proofs.closed.first_open_at.Goals as goal

pub returns-then-not-branch-clause-fault : goal.returns-then-not-branch-clause-fault
returns-then-not-branch-clause-fault g c list listed =
    let book = c.args.book.now in
    let item : Item = item_of c.in-Some.item.now in
    let least : IsLeast book item.cut (length book) c.in-Some-least_open.first =
    subst (λ (l : List ℕ). IsLeast book l (length book) c.in-Some-least_open.first)
    c.deref.ensures.value c.in-Some-least_open.ensures.least in
    let inside = c.in_ok-leads_inside.ensures.inside list listed in (
      item,
      c.in-Some.ensures.item list listed,
      (
        refl,
        not_whole book item.cut c.in-Some-least_open.first least,
        λ leads. true≢false (sym (inside.1 leads) ∙ c.if-not-branch.true),
        c.loop-caller.invariant.inside list listed,
      ),
    )

pub loop-caller-preserved : goal.loop-caller-preserved
loop-caller-preserved g c =
    let spec = g.S.SeqObject.spec c.args.object.now in
    let book = c.args.book.now in
    let item : Item = item_of c.in-Some.item.now in
    let caller : ℕ = c.loop-caller.caller in
    let marks : MarksAllNext book item.cut c.next_callers-marks.result =
    subst (λ (l : List ℕ). MarksAllNext book l c.next_callers-marks.result)
    c.deref-2.ensures.value c.next_callers-marks.ensures in
    record {
      room = elim c.else-has.branch [
        | else-has-via-then-has+in_ok-leads_inside+else-not-branch w ↦
            ap (λ (s : Contents). s.room) w.state-is
            ∙ (w.in_ok-leads_inside.ensures.room ∙ c.loop-caller.invariant.room)
        | else-has-via-else-has w ↦
            ap (λ (s : Contents). s.room) w.state-is ∙ c.loop-caller.invariant.room
      ];
      inside = λ list listed i less. elim (cases_lt i caller) [
        | inl below ↦ c.loop-caller.invariant.inside list listed i below
        | inr not_below ↦
            let here : LeadsInside spec book list item caller = elim c.else-has.branch [
              | else-has-via-then-has+in_ok-leads_inside+else-not-branch w ↦
                  (w.in_ok-leads_inside.ensures.inside list listed).0 w.if-not-branch.false
              | else-has-via-else-has w ↦ leads-never spec book list item caller (λ may.
                  true≢false (sym (c.has.ensures.1 ((marks caller).1 may)) ∙ w.if-has.false))
            ] in
            let same : i ≡ caller = omega (arith, less, not_below) in
            subst (λ (j : ℕ). LeadsInside spec book list item j) (sym same) here
      ];
    }

pub returns-clause-closed : goal.returns-clause-closed
returns-clause-closed g c list listed it at =
    let spec = g.S.SeqObject.spec c.args.object.now in
    let book = c.args.book.now in
    let item : Item = item_of c.in-Some.item.now in
    let least : IsLeast book item.cut (length book) c.in-Some-least_open.first =
    subst (λ (l : List ℕ). IsLeast book l (length book) c.in-Some-least_open.first)
    c.deref.ensures.value c.in-Some-least_open.ensures.least in
    let same : it ≡ item = same_Some it item (sym at ∙ c.in-Some.ensures.item list listed) in
    subst (IsClosedAt spec book list) (sym same) (closed_at spec book list item
    (not_whole book item.cut c.in-Some-least_open.first least) (λ i less.
    c.loop-caller.invariant.inside list listed i
    (omega (arith, less, c.loop-caller-test.false, c.callers-caller-end.ensures.count))))
