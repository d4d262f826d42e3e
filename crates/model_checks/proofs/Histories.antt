-- In the book of a history a call precedes another one exactly where it ends before that one
-- begins.
use Rattle.std.proofs.Common.{◌≡◌, ℕ, ◌+◌, ◌<◌, ◌≤◌, ◌⊎◌, ◌∙◌, List, [], ◌∷◌, ◌++◌, length, get_or, slice_get, Option, None, Some, IsSomeAnd, refl, sym, ap, subst, inl, inr, arith}
use Rattle.std.proofs.lemmas.Option.{slice_get_within}
use Rattle.list_laws.proofs.Places.{get_or-replicate_default}
use Rattle.book_base.specs.declared.call.Call.{Call}
use Rattle.book_base.specs.declared.call.Record.{Record}
use Rattle.book_base.specs.Book.{Page, page_of, calls_of, answers_of, announced, record_of, IsCall, Precedes}
use Rattle.book_base.proofs.GrowthLemmas.{announced_at, records-with_call, record_of-with_answer_old, record_of-with_answer_new, record_of-with_answer_cases}
use Rattle.legal_orders.proofs.LegalOrder.{answer_stands}
use Rattle.seq_objects.specs.Replies.{reply_value}
use Rattle.model_checks.specs.Words.{operation_word}
use Rattle.model_checks.specs.History.{Event, Begins, Ends, MayHappen, book_with, book_after, MayAllHappen, book_without_calls, begun_in, ended_in, EndsBefore}
use Rattle.model_checks.specs.Laws.{PrecedenceIsTold}
use Rattle.model_checks.proofs.Counting.{calls-after, answers-after, one_each-after}

-- the record of an answer that is given after a book
abbrev answer : List Page → ℕ → Record
answer book reply = record { reply = reply_value reply; view = announced book }

-- an event changes no record
record-stays : (book : List Page) (event : Event) (call : Call) (r : Record) → MayHappen book event
    → record_of book call ≡ Some r → record_of (book_with book event) call ≡ Some r
record-stays book (Begins caller op) call r may known =
    ap (λ (rs : List Record). slice_get rs call.number)
    (records-with_call book caller (operation_word op) call.caller may.is_caller) ∙ known
record-stays book (Ends caller reply) call r may known =
    record_of-with_answer_old book caller (answer book reply) call r may.is_caller known

records-stay : (book : List Page) (events : List Event) (call : Call) (r : Record)
    → MayAllHappen book events → record_of book call ≡ Some r
    → record_of (book_after book events) call ≡ Some r
records-stay book [] call r may known = known
records-stay book (event ∷ events) call r may known =
    records-stay (book_with book event) events call r may.1
    (record-stays book event call r may.0 known)

-- A call ends in some events after a book: at an end of a call of its caller as many are answered
-- as its number says, and its view counts the calls that have begun until then.
record EndsIn (book : List Page) (events : List Event) (call : Call) (r : Record) : Type 0 where
  before : List Event
  reply : ℕ
  after : List Event
  split : events ≡ before ++ Ends call.caller reply ∷ after
  answered : answers_of (book_after book before) call.caller ≡ call.number
  view : r.view ≡ announced (book_after book before)

-- an event gives no record but that of the call that ends
record-given : (book : List Page) (event : Event) (events : List Event) (call : Call) (r : Record)
    → MayHappen book event → record_of (book_with book event) call ≡ Some r
    → (record_of book call ≡ Some r) ⊎ EndsIn book (event ∷ events) call r
record-given book (Begins caller op) events call r may known =
    inl (sym (ap (λ (rs : List Record). slice_get rs call.number)
    (records-with_call book caller (operation_word op) call.caller may.is_caller)) ∙ known)
record-given book (Ends caller reply) events call r may known =
    elim (record_of-with_answer_cases book caller (answer book reply) call r may.is_caller known) [
      | inl was ↦ inl was
      | inr is ↦ inr (record {
        before = [];
        reply = reply;
        after = events;
        split = ap (λ (i : ℕ). Ends i reply ∷ events) (sym is.0);
        answered = ap (answers_of book) is.0 ∙ sym is.1;
        view = ap (λ (s : Record). s.view) is.2;
      })
    ]

-- and some events give none but those of the calls that end in them
records-given : (book : List Page) (events : List Event) (call : Call) (r : Record)
    → MayAllHappen book events → record_of (book_after book events) call ≡ Some r
    → (record_of book call ≡ Some r) ⊎ EndsIn book events call r
records-given book [] call r may known = inl known
records-given book (event ∷ events) call r may known =
    elim (records-given (book_with book event) events call r may.1 known) [
      | inl was ↦ record-given book event events call r may.0 was
      | inr ends ↦ inr (record {
        before = event ∷ ends.before;
        reply = ends.reply;
        after = ends.after;
        split = ap (λ (es : List Event). event ∷ es) ends.split;
        answered = ends.answered;
        view = ends.view;
      })
    ]

may-front : (book : List Page) (before : List Event) (event : Event) (after : List Event)
    → MayAllHappen book (before ++ event ∷ after)
    → MayAllHappen book before × MayHappen (book_after book before) event
may-front book [] event after may = (tt, may.0)
may-front book (first ∷ before) event after may =
    let rest = may-front (book_with book first) before event after may.1 in
    ((may.0, rest.0), rest.1)

-- the call that ends has its record then
record-ended : (book : List Page) (before : List Event) (call : Call) (reply : ℕ)
    (after : List Event) → MayAllHappen book (before ++ Ends call.caller reply ∷ after)
    → answers_of (book_after book before) call.caller ≡ call.number
    → record_of (book_after book (before ++ Ends call.caller reply ∷ after)) call
    ≡ Some (answer (book_after book before) reply)
record-ended book [] call reply after may answered =
    records-stay (book_with book (Ends call.caller reply)) after call (answer book reply) may.1
    (subst (λ (n : ℕ). record_of (book_with book (Ends call.caller reply))
    (record { caller = call.caller; number = n }) ≡ Some (answer book reply)) answered
    (record_of-with_answer_new book call.caller (answer book reply) may.0.is_caller))
record-ended book (first ∷ before) call reply after may answered =
    record-ended (book_with book first) before call reply after may.1 answered

page-empty : (callers i : ℕ)
    → page_of (book_without_calls callers) i ≡ record { operations = []; records = [] }
page-empty callers i = get_or-replicate_default callers i (record { operations = []; records = [] })

no_record : (callers : ℕ) (call : Call) (r : Record)
    → record_of (book_without_calls callers) call ≡ Some r → ⊥
no_record callers call r known = absurd (omega (
  arith,
  slice_get_within (page_of (book_without_calls callers) call.caller).records call.number r known,
  ap (λ (p : Page). length p.records) (page-empty callers call.caller),
))

module _ (callers : ℕ) (events : List Event) (a b : Call)
    (may : MayAllHappen (book_without_calls callers) events) where
  begun : (before : List Event) → MayAllHappen (book_without_calls callers) before → (i : ℕ)
      → calls_of (book_after (book_without_calls callers) before) i ≡ begun_in before i
  begun before fit i = omega (
    arith,
    calls-after (book_without_calls callers) before i fit,
    ap (λ (p : Page). length p.operations) (page-empty callers i),
  )

  ended : (before : List Event) → MayAllHappen (book_without_calls callers) before → (i : ℕ)
      → answers_of (book_after (book_without_calls callers) before) i ≡ ended_in before i
  ended before fit i = omega (
    arith,
    answers-after (book_without_calls callers) before i fit,
    ap (λ (p : Page). length p.records) (page-empty callers i),
  )

  one : (before : List Event) → MayAllHappen (book_without_calls callers) before → (i : ℕ)
      → calls_of (book_after (book_without_calls callers) before) i
      ≤ answers_of (book_after (book_without_calls callers) before) i + 1
  one before fit = one_each-after (book_without_calls callers) before fit (λ i. omega (
    arith,
    ap (λ (p : Page). length p.operations) (page-empty callers i),
  ))

  -- an answered call ends in the events
  ends : (r : Record) → record_of (book_after (book_without_calls callers) events) a ≡ Some r
      → EndsIn (book_without_calls callers) events a r
  ends r known = elim (records-given (book_without_calls callers) events a r may known) [
    | inl was ↦ absurd (no_record callers a r was)
    | inr it ↦ it
  ]

  fits : (r : Record) (it : EndsIn (book_without_calls callers) events a r)
      → MayAllHappen (book_without_calls callers) it.before
      × MayHappen (book_after (book_without_calls callers) it.before) (Ends a.caller it.reply)
  fits r it = may-front (book_without_calls callers) it.before (Ends a.caller it.reply) it.after
      (subst (MayAllHappen (book_without_calls callers)) it.split may)

  told_before : (r : Record) (it : EndsIn (book_without_calls callers) events a r)
      → calls_of (book_after (book_without_calls callers) it.before) b.caller ≤ b.number
      → EndsBefore events a b
  told_before r it few = record {
    before = it.before;
    reply = it.reply;
    after = it.after;
    split = it.split;
    ended = sym (ended it.before (fits r it).0 a.caller) ∙ it.answered;
    unbegun = omega (arith, few, begun it.before (fits r it).0 b.caller);
  }

  by_view : (o : Option Record)
      → record_of (book_after (book_without_calls callers) events) a ≡ o
      → IsSomeAnd o (λ r. get_or r.view b.caller 0 ≤ b.number) → EndsBefore events a b
  by_view None known none = absurd none
  by_view (Some r) known few =
      let it = ends r known in
      told_before r it (omega (
        arith,
        few,
        ap (λ (v : List ℕ). get_or v b.caller 0) it.view,
        announced_at (book_after (book_without_calls callers) it.before) b.caller,
      ))

  by_number : IsCall (book_after (book_without_calls callers) events) b → a.caller ≡ b.caller
      → a.number < b.number → EndsBefore events a b
  by_number called same earlier =
      let answered : a.number < answers_of (book_after (book_without_calls callers) events) a.caller
      = omega (
        arith,
        earlier,
        called,
        one events may b.caller,
        ap (answers_of (book_after (book_without_calls callers) events)) same,
      ) in
      let stands = answer_stands (book_after (book_without_calls callers) events) a answered in
      let it = ends stands.0 stands.1 in
      told_before stands.0 it (omega (
        arith,
        earlier,
        one it.before (fits stands.0 it).0 a.caller,
        it.answered,
        ap (calls_of (book_after (book_without_calls callers) it.before)) same,
      ))

  precedes : EndsBefore events a b
      → Precedes (book_after (book_without_calls callers) events) a b
  precedes it =
      let whole = subst (MayAllHappen (book_without_calls callers)) it.split may in
      let fit = (may-front (book_without_calls callers) it.before (Ends a.caller it.reply) it.after
      whole).0 in
      let known = record-ended (book_without_calls callers) it.before a it.reply it.after whole
      (ended it.before fit a.caller ∙ it.ended) in
      let few : get_or (announced (book_after (book_without_calls callers) it.before)) b.caller 0
      ≤ b.number = omega (
        arith,
        it.unbegun,
        begun it.before fit b.caller,
        announced_at (book_after (book_without_calls callers) it.before) b.caller,
      ) in
      inl (subst (λ (o : Option Record). IsSomeAnd o (λ r. get_or r.view b.caller 0 ≤ b.number))
      (sym (ap (λ (es : List Event). record_of (book_after (book_without_calls callers) es) a)
      it.split ∙ known)) few)

pub precedence_is_told : PrecedenceIsTold
precedence_is_told callers events a b may called = (
  λ before. elim before [
    | inl seen ↦ by_view callers events a b may
        (record_of (book_after (book_without_calls callers) events) a) refl seen
    | inr earlier ↦ by_number callers events a b may called earlier.0 earlier.1
  ],
  precedes callers events a b may,
)
