-- Laws of sketches: the events of a sketch are in one order.
use Rattle.std.proofs.Common.{◌≡◌, ℕ, ◌<◌, ◌≤◌, ◌∙◌, List, get_or, Some, sym, ap, subst, inl, inr, slice_get, arith}
use Rattle.std.proofs.lemmas.Bool.{cases_eq, cases_lt}
use Rattle.std.proofs.lemmas.Option.{same_Some, slice_get_within}
use Rattle.std.specs.Option.{IsSomeAnd}
use Rattle.list_laws.proofs.Options.{some_from_is_some_and}
use Rattle.list_laws.proofs.Ordered.{IsAsymmetricIn, IsOrderedBy-same}
use Rattle.book_base.specs.declared.call.Call.{Call}
use Rattle.book_base.specs.declared.call.Record.{Record}
use Rattle.book_base.specs.Book.{Page, IsCall, IsAnswered, record_of}
use Rattle.legal_orders.proofs.LegalOrder.{answer_stands}
use Rattle.sketch.specs.declared.event.Event.{Event}
use Rattle.sketch.specs.declared.event.Event.TheVariants.{Invoke, Return}
use Rattle.sketch.specs.Sketch.{IsEventOf, IsListedBefore, ComesBefore, IsSketch}
use Rattle.sketch.specs.Laws.{BooksHaveOneSketch, EventsStandOnce, CallsReturnAfterTheyAreInvoked, ViewsHoldWhatWasInvoked, ReturnsComeBeforeUnseenCalls}

-- of two calls at most one is listed before the other
listed_asymmetric : (a b : Call) → IsListedBefore a b → IsListedBefore b a → ⊥
listed_asymmetric a b (inl h) (inl k) = absurd (omega arith)
listed_asymmetric a b (inl h) (inr k) = absurd (omega (arith, k.0))
listed_asymmetric a b (inr h) (inl k) = absurd (omega (arith, h.0))
listed_asymmetric a b (inr h) (inr k) = absurd (omega (arith, h.1, k.1))

-- of two events of a book at most one comes before the other
pub comes_before_asymmetric : (book : List Page) (e f : Event) → IsEventOf book e → IsEventOf book f
    → ComesBefore book e f → ComesBefore book f e → ⊥
comes_before_asymmetric book (Invoke a) (Invoke b) is_e is_f h k =
    listed_asymmetric a b (h.1 k.0) (k.1 h.0)
comes_before_asymmetric book (Invoke a) (Return b) is_e is_f h k =
    let there = answer_stands book b is_f in
    absurd (omega (arith, h there.0 there.1, k there.0 there.1))
comes_before_asymmetric book (Return a) (Invoke b) is_e is_f h k =
    let there = answer_stands book a is_e in
    absurd (omega (arith, h there.0 there.1, k there.0 there.1))
comes_before_asymmetric book (Return a) (Return b) is_e is_f h k =
    let at = answer_stands book a is_e in
    let bt = answer_stands book b is_f in
    let there = h at.0 bt.0 at.1 bt.1 in
    let back = k bt.0 at.0 bt.1 at.1 in
    absurd (omega (arith, there.1 back.0, back.1 there.0))

-- an event that stands in a sketch is one of the book
event_of : (book : List Page) (events : List Event) → IsSketch book events → (k : ℕ) (event : Event)
    → slice_get events k ≡ Some event → IsEventOf book event
event_of book events h k event at = (h.whole event).0 (k, at)

-- an event that comes before another one is at an earlier place of a sketch
pub stands_before : (book : List Page) (events : List Event) → IsSketch book events
    → (j k : ℕ) (e f : Event)
    → slice_get events j ≡ Some e → slice_get events k ≡ Some f → ComesBefore book e f → j < k
stands_before book events h j k e f at bt before =
    let is_e = event_of book events h j e at in
    let is_f = event_of book events h k f bt in
    elim (cases_lt j k) [
      | inl less ↦ less
      | inr more ↦ elim (cases_eq j k) [
        | inl same ↦
            let one : e ≡ f = same_Some e f (sym at ∙ (ap (slice_get events) same ∙ bt)) in
            let self : ComesBefore book e e =
            subst (λ (x : Event). ComesBefore book e x) (sym one) before in
            absurd (comes_before_asymmetric book e e is_e is_e self self)
        | inr other ↦ absurd (comes_before_asymmetric book e f is_e is_f before
            (h.ordered k j f e bt at (omega (arith, other))))
      ]
    ]

pub events_stand_once : EventsStandOnce
events_stand_once book events h j k event at bt =
    let is = event_of book events h j event at in
    elim (cases_lt j k) [
      | inl less ↦ let self = h.ordered j k event event at bt less in
          absurd (comes_before_asymmetric book event event is is self self)
      | inr more ↦ elim (cases_lt k j) [
        | inl less ↦ let self = h.ordered k j event event bt at less in
            absurd (comes_before_asymmetric book event event is is self self)
        | inr same ↦ omega arith
      ]
    ]

pub calls_return_after_they_are_invoked : CallsReturnAfterTheyAreInvoked
calls_return_after_they_are_invoked book events valid h call = (
  λ (is : IsCall book call). (h.whole (Invoke call)).1 is,
  λ (is : IsAnswered book call).
      let known = answer_stands book call is in
      let made : IsCall book call = omega (arith, is, valid.answers call.caller) in
      let invoked = (h.whole (Invoke call)).1 made in
      let returned = (h.whole (Return call)).1 is in
      let before : ComesBefore book (Invoke call) (Return call) =
      λ (r : Record) (e : record_of book call ≡ Some r). omega (arith, valid.own call r e) in (
        invoked.0,
        returned.0,
        invoked.1,
        returned.1,
        stands_before book events h invoked.0 returned.0 (Invoke call)
            (Return call) invoked.1 returned.1 before,
      ),
)

pub views_hold_what_was_invoked : ViewsHoldWhatWasInvoked
views_hold_what_was_invoked book events h j k a b r at bt known = (
  λ (less : j < k). h.ordered j k (Invoke b) (Return a) at bt less r known,
  λ held. stands_before book events h j k (Invoke b) (Return a) at bt
      (λ (s : Record) (e : record_of book a ≡ Some s).
      subst (λ (x : Record). b.number < get_or x.view b.caller 0)
      (same_Some r s (sym known ∙ e)) held),
)

pub returns_come_before_unseen_calls : ReturnsComeBeforeUnseenCalls
returns_come_before_unseen_calls book events h a b is =
    let says : Record → Type 0 = λ r. get_or r.view b.caller 0 ≤ b.number in (
      λ (j, k, at, bt, less).
          let known = answer_stands book a ((h.whole (Return a)).0 (j, at)) in
          subst (λ o. IsSomeAnd o says) (sym known.1)
          (h.ordered j k (Return a) (Invoke b) at bt less known.0 known.1),
      λ (unseen : IsSomeAnd (record_of book a) says).
          let known = some_from_is_some_and (record_of book a) says unseen in
          let low : says known.0 = subst (λ o. IsSomeAnd o says) known.1 unseen in
          let returned = (h.whole (Return a)).1 (slice_get_within _ a.number known.0 known.1) in
          let invoked = (h.whole (Invoke b)).1 is in
          let before : ComesBefore book (Return a) (Invoke b) =
          λ (s : Record) (e : record_of book a ≡ Some s).
          subst says (same_Some known.0 s (sym known.1 ∙ e)) low in (
            returned.0,
            invoked.0,
            returned.1,
            invoked.1,
            stands_before book events h returned.0 invoked.0 (Return a)
                (Invoke b) returned.1 invoked.1 before,
          ),
    )

-- two events of a sketch never come before one another
sketch_asymmetric : (book : List Page) (events : List Event) → IsSketch book events
    → IsAsymmetricIn (ComesBefore book) events
sketch_asymmetric book events h e f at bt =
    comes_before_asymmetric book e f ((h.whole e).0 at) ((h.whole f).0 bt)

pub books_have_one_sketch : BooksHaveOneSketch
books_have_one_sketch book events others h k =
    IsOrderedBy-same (ComesBefore book) events others h.ordered k.ordered
    (sketch_asymmetric book events h) (sketch_asymmetric book others k)
    (λ e at. (k.whole e).1 ((h.whole e).0 at)) (λ e at. (h.whole e).1 ((k.whole e).0 at))
