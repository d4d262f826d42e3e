use Rattle.std.proofs.Common.{◌≡◌, ℕ, Some, sym, subst, ◌∙◌, slice_get, get_or, inl, inr, arith}
use Rattle.std.proofs.lemmas.Bool.{cases_eq, false≢true}
use Rattle.std.proofs.lemmas.Option.{slice_get-get_or}
use Rattle.book_base.specs.declared.call.Call.{Call}
use Rattle.book_base.specs.declared.call.Place.{Place}
use Rattle.book_base.specs.Book.{IsCall, Precedes}
use Rattle.book_base.specs.Order.{StandsAt, call_at}
use Rattle.order_check.proofs.Faults.{no_place, stands_here, same_stands}
use Rattle.order_check.proofs.Placing.{seen_in_time}
use Rattle.order_check.proofs.place.first_preceded.Goals as goal

pub precedes-requires-clause-second : goal.precedes-requires-clause-second
precedes-requires-clause-second c =
    let order = c.args.order.now in
    let q = c.loop-q.q in
    let here : Place = get_or order q no_place in
    let at : slice_get order q ≡ Some here =
    slice_get-get_or order q no_place (omega (arith, c.loop-q-test.true, c.requires.place)) in
    subst (IsCall c.args.book.now) (sym c.call_at.ensures)
    (c.requires.standing.calls q (call_at here) c.loop-q-test.true (stands_here order q here at))

pub returns-then-precedes-clause-preceded : goal.returns-then-precedes-clause-preceded
returns-then-precedes-clause-preceded c =
    let order = c.args.order.now in
    let q = c.loop-q.q in
    let here : Place = get_or order q no_place in
    let at : slice_get order q ≡ Some here =
    slice_get-get_or order q no_place (omega (arith, c.loop-q-test.true, c.requires.place)) in
    let stands : StandsAt order q c.call_at.result =
    subst (StandsAt order q) (sym c.call_at.ensures) (stands_here order q here at) in
    (c.loop-q-test.true, (c.call_at.result, stands, c.precedes.ensures.0 c.if-precedes.true))

pub loop-q-preserved : goal.loop-q-preserved
loop-q-preserved c j other less there before =
    let order = c.args.order.now in
    let q = c.loop-q.q in
    let here : Place = get_or order q no_place in
    elim (cases_eq j q) [
      | inl same ↦
          let at : slice_get order q ≡ Some here =
          slice_get-get_or order q no_place (omega (arith, c.loop-q-test.true, c.requires.place)) in
          let one : call_at here ≡ other = same_stands order q (call_at here) other
          (stands_here order q here at) (subst (λ (k : ℕ). StandsAt order k other) same there) in
          absurd (false≢true (sym c.if-precedes.false ∙ c.precedes.ensures.1 (subst (λ (b : Call).
          Precedes c.args.book.now c.args.call b) (sym (c.call_at.ensures ∙ one)) before)))
      | inr apart ↦ c.loop-q.invariant j other (omega (arith, less, apart)) there before
    ]

pub returns-clause-none : goal.returns-clause-none
returns-clause-none c j other less there before =
    c.loop-q.invariant j other (omega (arith, less, c.loop-q-test.false)) there before

pub returns-then-within-clause-none : goal.returns-then-within-clause-none
returns-then-within-clause-none c =
    seen_in_time c.args.book.now c.args.order.now c.args.before c.args.standing.now c.args.call
    c.record.result c.requires.standing c.requires.next c.record.ensures.record
    (c.within.ensures.0 c.if-within.true)
