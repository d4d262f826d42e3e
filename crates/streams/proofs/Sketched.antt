-- The stream of a book's sketch, and that the book is the book of it.
use Rattle.std.proofs.Common.{◌≡◌, ℕ, zero, suc, ◌+◌, ◌<◌, ◌≤◌, ◌∙◌, List, [], ◌∷◌, get_or, Option, Some, unwrap_or, refl, sym, ap, subst, inl, inr, slice_get, arith}
use Rattle.std.specs.Prelude.{IsSomeAnd}
use Rattle.std.proofs.lemmas.Bool.{cases_order}
use Rattle.std.proofs.lemmas.Option.{same_Some, none-some}
use Rattle.book_base.specs.declared.call.Call.{Call}
use Rattle.book_base.specs.declared.call.Record.{Record}
use Rattle.book_base.specs.Cut.{Holds}
use Rattle.book_base.specs.Book.{Page, calls_of, answers_of, IsCall, IsAnswered, operation_of, record_of, IsValid}
use Rattle.book_base.proofs.ViewLemmas.{same_call, answer_stands}
use Rattle.legal_orders.proofs.Orders.{has_operation}
use Rattle.sketch.specs.declared.event.Event.{Event}
use Rattle.sketch.specs.declared.event.Event.TheVariants.{Invoke, Return}
use Rattle.sketch.specs.Sketch.{IsSketch}
use Rattle.sketch.proofs.Orderly.{events_stand_once, calls_return_after_they_are_invoked, views_hold_what_was_invoked, returns_come_before_unseen_calls}
use Rattle.streams.specs.Stream.{StreamEvent, Called, Returned, Lost, process_of, Ends, IsCalledAt, IsQuiet, Returns, IsValidStream}
use Rattle.streams.specs.StreamBook.{IsBookOf}
use Rattle.streams.specs.BookStream.{reply_of, event_of, HasOnePending, stream_of, call_of_event, name_in}
use Rattle.streams.specs.Laws.{BooksAreThoseOfTheirStreams}

get-mapped : (book : List Page) (events : List Event) (k : ℕ) (x : Event)
    → slice_get events k ≡ Some x → slice_get (stream_of book events) k ≡ Some (event_of book x)
get-mapped book [] k x at = absurd (none-some x at)
get-mapped book (y ∷ events) zero x at =
    ap (λ (z : Event). Some (event_of book z)) (same_Some y x at)
get-mapped book (y ∷ events) (suc k) x at = get-mapped book events k x at

get-unmapped : (book : List Page) (events : List Event) (k : ℕ) (event : StreamEvent)
    → slice_get (stream_of book events) k ≡ Some event
    → (x : Event) × (slice_get events k ≡ Some x) × (event_of book x ≡ event)
get-unmapped book [] k event at = absurd (none-some event at)
get-unmapped book (x ∷ events) zero event at = (x, refl, same_Some _ event at)
get-unmapped book (x ∷ events) (suc k) event at = get-unmapped book events k event at

-- the event of a sketch that is told as a call is an invocation
invocation-of : (book : List Page) (x : Event) (process op : ℕ)
    → event_of book x ≡ Called process op
    → (call : Call) × (x ≡ Invoke call) × (call.caller ≡ process)
    × (unwrap_or (operation_of book call) 0 ≡ op)
invocation-of book (Invoke call) process op is =
    let first : call.caller ≡ process = ap process_of is in
    let second : unwrap_or (operation_of book call) 0 ≡ op = cc in
    (call, refl, first, second)
invocation-of book (Return call) process op is = absurd cc

return-of : (book : List Page) (x : Event) (process reply : ℕ)
    → event_of book x ≡ Returned process reply
    → (call : Call) × (x ≡ Return call) × (call.caller ≡ process)
    × (reply_of (record_of book call) ≡ reply)
return-of book (Invoke call) process reply is = absurd cc
return-of book (Return call) process reply is =
    let first : call.caller ≡ process = ap process_of is in
    let second : reply_of (record_of book call) ≡ reply = cc in
    (call, refl, first, second)

no_loss : (book : List Page) (x : Event) (process : ℕ) → event_of book x ≡ Lost process → ⊥
no_loss book (Invoke call) process is = cc
no_loss book (Return call) process is = cc

call-process : (book : List Page) (x : Event) → (event_of book x ≡ event_of book x)
    × (process_of (event_of book x) ≡ (call_of_event (Some x)).caller)
call-process book (Invoke call) = (refl, refl)
call-process book (Return call) = (refl, refl)

module _ (book : List Page) (events : List Event) (valid : IsValid book)
    (pending : HasOnePending book) (sketch : IsSketch book events) where
  abbrev stream : List StreamEvent
  stream = stream_of book events

  -- an event is in the sketch at one place
  once : (j k : ℕ) (event : Event) → slice_get events j ≡ Some event
      → slice_get events k ≡ Some event → j ≡ k
  once j k event first second = events_stand_once book events sketch j k event first second

  is_call : (k : ℕ) (call : Call) → slice_get events k ≡ Some (Invoke call) → IsCall book call
  is_call k call at = (sketch.whole (Invoke call)).0 (k, at)

  is_answered : (k : ℕ) (call : Call) → slice_get events k ≡ Some (Return call)
      → IsAnswered book call
  is_answered k call at = (sketch.whole (Return call)).0 (k, at)

  -- a call returns after it is invoked
  after : (j k : ℕ) (call : Call) → slice_get events j ≡ Some (Invoke call)
      → slice_get events k ≡ Some (Return call) → j < k
  after j k call first second =
      let found = (calls_return_after_they_are_invoked book events valid sketch call).1
      (is_answered k call second) in
      omega (
        arith,
        once j found.0 (Invoke call) first found.2,
        once k found.1 (Return call) second found.3,
        found.4,
      )

  -- an earlier call of a caller is answered, and returns before a later one is invoked
  earlier-answered : (a b : Call) → a.caller ≡ b.caller → a.number < b.number → IsCall book b
      → IsAnswered book a
  earlier-answered a b same less is =
      let here : b.number < calls_of book a.caller =
      subst (λ (i : ℕ). b.number < calls_of book i) (sym same) is in
      omega (arith, pending a.caller)

  turn : (j k : ℕ) (a b : Call) → a.caller ≡ b.caller → a.number < b.number
      → slice_get events j ≡ Some (Return a) → slice_get events k ≡ Some (Invoke b) → j < k
  turn j k a b same less first second =
      let known = answer_stands book a (is_answered j a first) in
      let own : get_or known.0.view a.caller 0 ≡ a.number + 1 = valid.own a known.0 known.1 in
      let unseen : get_or known.0.view b.caller 0 ≤ b.number =
      subst (λ (i : ℕ). get_or known.0.view i 0 ≤ b.number) same (omega arith) in
      let P : Record → Type 0 = λ r. get_or r.view b.caller 0 ≤ b.number in
      let found = (returns_come_before_unseen_calls book events sketch a b (is_call k b second)).1
      (subst (λ (o : Option Record). IsSomeAnd o P) (sym known.1) unseen) in
      omega (
        arith,
        once j found.0 (Return a) first found.2,
        once k found.1 (Invoke b) second found.3,
        found.4,
      )

  -- the place at which an answered call returns
  return_of : (call : Call) → IsAnswered book call
      → (k : ℕ) × (slice_get events k ≡ Some (Return call))
  return_of call is = (sketch.whole (Return call)).1 is

  invocation_of : (call : Call) → IsCall book call
      → (k : ℕ) × (slice_get events k ≡ Some (Invoke call))
  invocation_of call is = (sketch.whole (Invoke call)).1 is

  -- between the invocation and the return of a call there is no event of its caller
  none-between : (j end : ℕ) (call : Call) → slice_get events j ≡ Some (Invoke call)
      → slice_get events end ≡ Some (Return call) → (k : ℕ) (x : Event) → j < k → k < end
      → slice_get events k ≡ Some x → (call_of_event (Some x)).caller ≡ call.caller → ⊥
  none-between j end call first last k (Invoke d) low high at same =
      elim (cases_order d.number call.number) [
        | inl equal ↦
            let one : d ≡ call = same_call d call same equal in
            let here = once k j (Invoke call)
            (at ∙ ap (λ (c : Call). Some (Invoke c)) one) first in
            omega arith
        | inr (inl less) ↦
            let back = return_of d (earlier-answered d call same less (is_call j call first)) in
            omega (arith, after k back.0 d at back.1, turn back.0 j d call same less back.1 first)
        | inr (inr more) ↦ omega (arith, turn end k call d (sym same) more last at)
      ]
  none-between j end call first last k (Return d) low high at same =
      elim (cases_order d.number call.number) [
        | inl equal ↦
            let one : d ≡ call = same_call d call same equal in
            let here = once k end (Return call)
            (at ∙ ap (λ (c : Call). Some (Return c)) one) last in
            omega arith
        | inr (inl less) ↦ omega (arith, turn k j d call same less at first)
        | inr (inr more) ↦
            let is : d.number < answers_of book d.caller = is_answered k d at in
            let begun = invocation_of d (omega (arith, valid.answers d.caller)) in
            omega (
              arith,
              turn end begun.0 call d (sym same) more last begun.1,
              after begun.0 k d begun.1 at,
            )
      ]

  quiet-between : (j end : ℕ) (call : Call) → slice_get events j ≡ Some (Invoke call)
      → slice_get events end ≡ Some (Return call) → IsQuiet stream call.caller j end
  quiet-between j end call first last k event low high at same =
      let x = get-unmapped book events k event at in
      none-between j end call first last k x.0 low high x.1
      (sym (call-process book x.0).1 ∙ (ap process_of x.2 ∙ same))

  -- a call returns in the stream where it returns in the sketch
  returns-there : (j end : ℕ) (call : Call) → slice_get events j ≡ Some (Invoke call)
      → slice_get events end ≡ Some (Return call)
      → Returns stream j end (reply_of (record_of book call))
  returns-there j end call first last = record {
    process = call.caller;
    op = unwrap_or (operation_of book call) 0;
    called = get-mapped book events j (Invoke call) first;
    returned = get-mapped book events end (Return call) last;
    after = after j end call first last;
    quiet = quiet-between j end call first last;
  }

  invoked : (k process op : ℕ) → IsCalledAt stream k process op
      → (call : Call) × (slice_get events k ≡ Some (Invoke call)) × (call.caller ≡ process)
      × (unwrap_or (operation_of book call) 0 ≡ op) × (name_in events k ≡ call)
  invoked k process op at =
      let x = get-unmapped book events k (Called process op) at in
      let told = invocation-of book x.0 process op x.2 in
      let here : slice_get events k ≡ Some (Invoke told.0) =
      x.1 ∙ ap (λ (e : Event). Some e) told.1 in
      (told.0, here, told.2, told.3, ap call_of_event here)

  returned_call : (k process reply : ℕ) → slice_get stream k ≡ Some (Returned process reply)
      → (call : Call) × (slice_get events k ≡ Some (Return call)) × (call.caller ≡ process)
      × (reply_of (record_of book call) ≡ reply)
  returned_call k process reply at =
      let x = get-unmapped book events k (Returned process reply) at in
      let told = return-of book x.0 process reply x.2 in
      (told.0, x.1 ∙ ap (λ (e : Event). Some e) told.1, told.2, told.3)

  -- a call that returns in the stream returns in the sketch
  returns-here : (j end reply : ℕ) → Returns stream j end reply
      → (call : Call) × (slice_get events j ≡ Some (Invoke call))
      × (slice_get events end ≡ Some (Return call)) × (reply_of (record_of book call) ≡ reply)
  returns-here j end reply h =
      let begun = invoked j h.process h.op h.called in
      let back = returned_call end h.process reply h.returned in
      let same : back.0.caller ≡ begun.0.caller = back.2 ∙ sym begun.2 in
      let order : j < end = h.after in
      elim (cases_order back.0.number begun.0.number) [
        | inl equal ↦
            let one : back.0 ≡ begun.0 = same_call back.0 begun.0 same equal in (
              begun.0,
              begun.1,
              back.1 ∙ ap (λ (c : Call). Some (Return c)) one,
              ap (λ (c : Call). reply_of (record_of book c)) (sym one) ∙ back.3,
            )
        | inr (inl less) ↦
            absurd (omega (arith, turn end j back.0 begun.0 same less back.1 begun.1))
        | inr (inr more) ↦
            let is : back.0.number < answers_of book back.0.caller =
            is_answered end back.0 back.1 in
            let later = invocation_of back.0 (omega (arith, valid.answers back.0.caller)) in
            let own = return_of begun.0 (earlier-answered begun.0 back.0 (sym same) more
            (is_call later.0 back.0 later.1)) in
            let first = after j own.0 begun.0 begun.1 own.1 in
            let second = turn own.0 later.0 begun.0 back.0 (sym same) more own.1 later.1 in
            let third = after later.0 end back.0 later.1 back.1 in
            absurd (h.quiet own.0 (event_of book (Return begun.0)) first (omega arith)
            (get-mapped book events own.0 (Return begun.0) own.1) begun.2)
      ]

  ends-after : (end : ℕ) (event : StreamEvent) → slice_get stream end ≡ Some event → Ends event
      → (call : ℕ) × (op : ℕ) × (call < end) × IsCalledAt stream call (process_of event) op
      × IsQuiet stream (process_of event) call end
  ends-after end (Called process op) at is = absurd is
  ends-after end (Returned process reply) at is =
      let back = returned_call end process reply at in
      let answered : back.0.number < answers_of book back.0.caller =
      is_answered end back.0 back.1 in
      let begun = invocation_of back.0 (omega (arith, valid.answers back.0.caller)) in (
        begun.0,
        unwrap_or (operation_of book back.0) 0,
        after begun.0 end back.0 begun.1 back.1,
        get-mapped book events begun.0 (Invoke back.0) begun.1
            ∙ ap (λ (p : ℕ). Some (Called p (unwrap_or (operation_of book back.0) 0))) back.2,
        subst (λ (p : ℕ). IsQuiet stream p begun.0 end) back.2
            (quiet-between begun.0 end back.0 begun.1 back.1),
      )
  ends-after end (Lost process) at is =
      let x = get-unmapped book events end (Lost process) at in
      absurd (no_loss book x.0 process x.2)

  stream_is_valid : IsValidStream stream
  stream_is_valid = record {
    calls = λ j k process op other less first second.
        let a = invoked j process op first in
        let b = invoked k process other second in
        let same : a.0.caller ≡ b.0.caller = a.2 ∙ sym b.2 in
        elim (cases_order a.0.number b.0.number) [
          | inl equal ↦
              let one : a.0 ≡ b.0 = same_call a.0 b.0 same equal in
              let here = once j k (Invoke b.0)
              (a.1 ∙ ap (λ (c : Call). Some (Invoke c)) one) b.1 in
              absurd (omega arith)
          | inr (inl before) ↦
              let back =
              return_of a.0 (earlier-answered a.0 b.0 same before (is_call k b.0 b.1)) in (
                back.0,
                Returned a.0.caller (reply_of (record_of book a.0)),
                after j back.0 a.0 a.1 back.1,
                turn back.0 k a.0 b.0 same before back.1 b.1,
                get-mapped book events back.0 (Return a.0) back.1,
                a.2,
                tt,
              )
          | inr (inr past) ↦
              let back = return_of b.0 (earlier-answered b.0 a.0 (sym same) past
              (is_call j a.0 a.1)) in
              absurd (omega (
                arith,
                after k back.0 b.0 b.1 back.1,
                turn back.0 j b.0 a.0 (sym same) past back.1 a.1,
              ))
        ];
    ends = ends-after;
  }

  is_its_book : IsBookOf stream book (name_in events)
  is_its_book = record {
    calls = λ k process op at.
        let x = invoked k process op at in
        ap (operation_of book) x.4
        ∙ (has_operation book x.0 (is_call k x.0 x.1) ∙ ap (λ (w : ℕ). Some w) x.3);
    whole = λ named is.
        let found = invocation_of named is in (
          found.0,
          (
            named.caller,
            unwrap_or (operation_of book named) 0,
            get-mapped book events found.0 (Invoke named) found.1,
          ),
          ap call_of_event found.1,
        );
    apart = λ a b (p, o, one) (q, w, two) same.
        let x = invoked a p o one in
        let y = invoked b q w two in
        let equal : x.0 ≡ y.0 = sym x.4 ∙ (same ∙ y.4) in
        once a b (Invoke y.0) (x.1 ∙ ap (λ (c : Call). Some (Invoke c)) equal) y.1;
    turns = λ a b (p, o, one) (q, w, two) same less.
        let x = invoked a p o one in
        let y = invoked b q w two in
        let caller : x.0.caller ≡ y.0.caller =
        sym (ap (λ (c : Call). c.caller) x.4) ∙ (same ∙ ap (λ (c : Call). c.caller) y.4) in
        let number : x.0.number < y.0.number = omega (
          arith,
          less,
          ap (λ (c : Call). c.number) x.4,
          ap (λ (c : Call). c.number) y.4,
        ) in
        let back = return_of x.0 (earlier-answered x.0 y.0 caller number (is_call b y.0 y.1)) in (
          back.0,
          reply_of (record_of book x.0),
          returns-there a back.0 x.0 x.1 back.1,
          turn back.0 b x.0 y.0 caller number back.1 y.1,
        );
    process = λ a b p o q w one two same.
        let x = invoked a p o one in
        let y = invoked b q w two in
        sym x.2 ∙ (sym (ap (λ (c : Call). c.caller) x.4)
        ∙ (same ∙ (ap (λ (c : Call). c.caller) y.4 ∙ y.2)));
    caller = λ a b p o w less one two keeps.
        let x = invoked a p o one in
        let y = invoked b p w two in
        ap (λ (c : Call). c.caller) x.4 ∙ (x.2 ∙ (sym y.2 ∙ sym (ap (λ (c : Call). c.caller) y.4)));
    answers = λ call end reply returns.
        let x = returns-here call end reply returns in
        let known = answer_stands book x.0 (is_answered end x.0 x.2) in
        let named : name_in events call ≡ x.0 = ap call_of_event x.1 in (
          known.0,
          ap (record_of book) named ∙ known.1,
          sym (ap reply_of known.1) ∙ x.3,
          valid.wide x.0 known.0 known.1,
          valid.within x.0 known.0 known.1,
          λ other (p, o, at).
              let y = invoked other p o at in
              let holds = views_hold_what_was_invoked book events sketch other end x.0 y.0 known.0
              y.1 x.2 known.1 in (
                λ held. holds.1 (subst (λ (c : Call). Holds known.0.view c) y.4 held),
                λ before. subst (λ (c : Call). Holds known.0.view c) (sym y.4) (holds.0 before),
              ),
        );
    returned = λ named is.
        let back = return_of named is in
        let begun = invocation_of named (omega (arith, is, valid.answers named.caller)) in (
          begun.0,
          back.0,
          reply_of (record_of book named),
          returns-there begun.0 back.0 named begun.1 back.1,
          ap call_of_event begun.1,
        );
  }

pub books_are_those_of_their_streams : BooksAreThoseOfTheirStreams
books_are_those_of_their_streams book events valid pending sketch = (
  stream_is_valid book events valid pending sketch,
  is_its_book book events valid pending sketch,
)
