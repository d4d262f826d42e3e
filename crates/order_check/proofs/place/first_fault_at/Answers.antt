use Rattle.std.proofs.Common.{◌≡◌, ℕ, ◌<◌, ◌≤◌, ◌∙◌, Some, sym, ap, subst, slice_get, get_or, arith}
use Rattle.std.proofs.lemmas.Option.{slice_get-get_or, slice_get_within, same_Some}
use Rattle.book_base.specs.declared.call.Call.{Call}
use Rattle.book_base.specs.declared.call.Place.{Place}
use Rattle.book_base.specs.declared.call.Record.{Record as Answer}
use Rattle.book_base.specs.Book.{IsCall, answers_of, record_of, Precedes}
use Rattle.book_base.specs.Order.{StandsAt, call_at}
use Rattle.order_check.proofs.Faults.{no_place}
use Rattle.order_check.proofs.Placing.{unanswered_in_time, in_place}
use Rattle.order_check.proofs.FirstAt.{unknown_first, twice_first, skipped_first, late_first, record_first}
use Rattle.order_check.proofs.place.first_fault_at.Goals as goal

pub returns-then-not-is_call-clause-fault : goal.returns-then-not-is_call-clause-fault
returns-then-not-is_call-clause-fault c = λ spec.
    let order = c.args.order.now in
    let p = c.args.at in
    let book = c.args.book.now in
    let here : Place = get_or order p no_place in
    let at : slice_get order p ≡ Some here = slice_get-get_or order p no_place c.requires.place in
    unknown_first spec book order p here at (λ (is : IsCall book (call_at here)).
    let made = c.is_call.ensures.1 (subst (IsCall book) (sym c.call_at-call.ensures) is) in
    cc)

pub returns-then-call-next-clause-fault : goal.returns-then-call-next-clause-fault
returns-then-call-next-clause-fault c = λ spec.
    let order = c.args.order.now in
    let p = c.args.at in
    let here : Place = get_or order p no_place in
    let at : slice_get order p ≡ Some here = slice_get-get_or order p no_place c.requires.place in
    let is : IsCall c.args.book.now (call_at here) = subst
    (IsCall c.args.book.now) c.call_at-call.ensures (c.is_call.ensures.0 c.if-not-is_call.false) in
    twice_first spec c.args.book.now order p c.args.standing.now here c.requires.standing at is
    (omega (
      arith,
      c.if-call-next.true,
      c.get-next.ensures,
      ap (λ (x : Call). x.number) c.call_at-call.ensures,
      ap (λ (x : Call). get_or c.args.standing.now x.caller 0) c.call_at-call.ensures,
    ))

pub returns-then-call-next-2-clause-fault : goal.returns-then-call-next-2-clause-fault
returns-then-call-next-2-clause-fault c = λ spec.
    let order = c.args.order.now in
    let p = c.args.at in
    let here : Place = get_or order p no_place in
    let at : slice_get order p ≡ Some here = slice_get-get_or order p no_place c.requires.place in
    let is : IsCall c.args.book.now (call_at here) = subst
    (IsCall c.args.book.now) c.call_at-call.ensures (c.is_call.ensures.0 c.if-not-is_call.false) in
    skipped_first spec c.args.book.now order p c.args.standing.now here
    c.requires.standing at is
    (omega (
      arith,
      c.if-call-next-2.true,
      c.get-next.ensures,
      ap (λ (x : Call). x.number) c.call_at-call.ensures,
      ap (λ (x : Call). get_or c.args.standing.now x.caller 0) c.call_at-call.ensures,
    ))

pub returns-then-call-answers-clause-none : goal.returns-then-call-answers-clause-none
returns-then-call-answers-clause-none c =
    let order = c.args.order.now in
    let p = c.args.at in
    let book = c.args.book.now in
    let here : Place = get_or order p no_place in
    let at : slice_get order p ≡ Some here = slice_get-get_or order p no_place c.requires.place in
    let is : IsCall book (call_at here) =
    subst (IsCall book) c.call_at-call.ensures (c.is_call.ensures.0 c.if-not-is_call.false) in
    let number : here.number ≡ get_or c.args.standing.now here.caller 0 =
    omega (
      arith,
      c.if-call-next.false,
      c.if-call-next-2.false,
      c.get-next.ensures,
      ap (λ (x : Call). x.number) c.call_at-call.ensures,
      ap (λ (x : Call). get_or c.args.standing.now x.caller 0) c.call_at-call.ensures,
    ) in
    let unanswered : answers_of book here.caller ≤ here.number =
    omega (
      arith,
      c.if-call-answers.true,
      c.answers.ensures,
      ap (λ (x : Call). x.number) c.call_at-call.ensures,
      ap (λ (x : Call). answers_of book x.caller) c.call_at-call.ensures,
    ) in
    in_place book order p c.args.standing.now here c.requires.standing at is number
    (unanswered_in_time book order p c.args.standing.now
    (call_at here) c.requires.standing number unanswered)
    (λ (r : Answer) (known : record_of book (call_at here) ≡ Some r).
    absurd (omega (arith, unanswered, slice_get_within _ here.number r known)))

pub returns-in-Some-clause-fault : goal.returns-in-Some-clause-fault
returns-in-Some-clause-fault c = λ spec.
    let order = c.args.order.now in
    let p = c.args.at in
    let book = c.args.book.now in
    let here : Place = get_or order p no_place in
    let at : slice_get order p ≡ Some here = slice_get-get_or order p no_place c.requires.place in
    let is : IsCall book (call_at here) =
    subst (IsCall book) c.call_at-call.ensures (c.is_call.ensures.0 c.if-not-is_call.false) in
    let number : here.number ≡ get_or c.args.standing.now here.caller 0 =
    omega (
      arith,
      c.if-call-next.false,
      c.if-call-next-2.false,
      c.get-next.ensures,
      ap (λ (x : Call). x.number) c.call_at-call.ensures,
      ap (λ (x : Call). get_or c.args.standing.now x.caller 0) c.call_at-call.ensures,
    ) in
    let found = c.in-Some.ensures.preceded in
    late_first spec book order p c.in-Some.earlier c.args.standing.now here c.requires.standing
    at is number found.0 found.1.0 found.1.1
    (subst (λ (x : Call). Precedes book x found.1.0) c.call_at-call.ensures found.1.2)
    (subst (λ (x : Call). (j : ℕ) (other : Call) → j < c.in-Some.earlier → StandsAt order j other
    → Precedes book x other → ⊥) c.call_at-call.ensures c.in-Some.ensures.least)

pub returns-then-wanted-place-clause-fault : goal.returns-then-wanted-place-clause-fault
returns-then-wanted-place-clause-fault c = λ spec.
    let order = c.args.order.now in
    let p = c.args.at in
    let book = c.args.book.now in
    let here : Place = get_or order p no_place in
    let at : slice_get order p ≡ Some here = slice_get-get_or order p no_place c.requires.place in
    let is : IsCall book (call_at here) =
    subst (IsCall book) c.call_at-call.ensures (c.is_call.ensures.0 c.if-not-is_call.false) in
    let number : here.number ≡ get_or c.args.standing.now here.caller 0 =
    omega (
      arith,
      c.if-call-next.false,
      c.if-call-next-2.false,
      c.get-next.ensures,
      ap (λ (x : Call). x.number) c.call_at-call.ensures,
      ap (λ (x : Call). get_or c.args.standing.now x.caller 0) c.call_at-call.ensures,
    ) in
    record_first spec book order p c.args.standing.now here c.record-wanted.result
    c.requires.standing at is number
    (subst (λ (x : Call). (j : ℕ) (other : Call) → j < p → StandsAt order j other
    → Precedes book x other → ⊥) c.call_at-call.ensures c.in_default.ensures.none)
    (ap (record_of book) (sym c.call_at-call.ensures) ∙ c.record-wanted.ensures.record)
    c.if-wanted-place.true

pub returns-clause-none : goal.returns-clause-none
returns-clause-none c =
    let order = c.args.order.now in
    let p = c.args.at in
    let book = c.args.book.now in
    let here : Place = get_or order p no_place in
    let at : slice_get order p ≡ Some here = slice_get-get_or order p no_place c.requires.place in
    let is : IsCall book (call_at here) =
    subst (IsCall book) c.call_at-call.ensures (c.is_call.ensures.0 c.if-not-is_call.false) in
    let number : here.number ≡ get_or c.args.standing.now here.caller 0 =
    omega (
      arith,
      c.if-call-next.false,
      c.if-call-next-2.false,
      c.get-next.ensures,
      ap (λ (x : Call). x.number) c.call_at-call.ensures,
      ap (λ (x : Call). get_or c.args.standing.now x.caller 0) c.call_at-call.ensures,
    ) in
    in_place book order p c.args.standing.now here c.requires.standing at is number
    (subst (λ (x : Call). (j : ℕ) (other : Call) → j < p → StandsAt order j other
    → Precedes book x other → ⊥) c.call_at-call.ensures c.in_default.ensures.none)
    (λ (r : Answer) (known : record_of book (call_at here) ≡ Some r).
    let one : r ≡ c.record-wanted.result = same_Some r c.record-wanted.result (sym known
    ∙ (ap (record_of book) (sym c.call_at-call.ensures) ∙ c.record-wanted.ensures.record)) in
    ap (λ (x : Answer). x.reply) one ∙ c.if-wanted-place.false)
