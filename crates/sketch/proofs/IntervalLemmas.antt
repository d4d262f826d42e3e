-- Intervals of calls in the sketch of their book.
use Rattle.std.proofs.Common.{◌≡◌, ℕ, ◌+◌, ◌<◌, ◌≤◌, ◌∙◌, List, length, get_or, Some, sym, ap, subst, inl, inr, slice_get, arith}
use Rattle.std.proofs.lemmas.Bool.{cases_eq, cases_lt}
use Rattle.std.proofs.lemmas.Option.{same_Some, slice_get_within}
use Rattle.std.specs.Option.{IsSomeAnd}
use Rattle.list_laws.proofs.Options.{some_from_is_some_and}
use Rattle.book_base.specs.declared.call.Call.{Call}
use Rattle.book_base.specs.declared.call.Record.{Record}
use Rattle.book_base.specs.Cut.{Holds}
use Rattle.book_base.specs.Book.{Page, IsCall, IsAnswered, IsValid, Precedes, calls_of, answers_of, record_of}
use Rattle.book_base.proofs.ViewLemmas.{same_call, answer_stands}
use Rattle.sketch.specs.declared.event.Event.{Event}
use Rattle.sketch.specs.declared.event.Event.TheVariants.{Invoke, Return}
use Rattle.sketch.specs.Sketch.{IsSeenWith, ComesBefore, IsSketch}
use Rattle.sketch.proofs.Orderly.{stands_before, events_stand_once, returns_come_before_unseen_calls}
use Rattle.sketch.specs.declared.interval.Interval.{Interval}
use Rattle.sketch.specs.Intervals.{next_of, StandsFrom, IsIntervalOf}

-- the calls of a caller are invoked in turn
pub invoked_in_turn : (book : List Page) (events : List Event) → IsSketch book events
    → (a b : Call) (j k : ℕ) → slice_get events j ≡ Some (Invoke a)
    → slice_get events k ≡ Some (Invoke b) → a.caller ≡ b.caller → a.number < b.number → j < k
invoked_in_turn book events h a b j k at bt caller less =
    let seen : IsSeenWith book a b =
    λ (answered : Call) (r : Record) (e : record_of book answered ≡ Some r) (held : Holds r.view b).
    omega (arith, held, ap (λ (i : ℕ). get_or r.view i 0) caller) in
    let before : ComesBefore book (Invoke a) (Invoke b) = (seen, λ _. inr (caller, less)) in
    stands_before book events h j k (Invoke a) (Invoke b) at bt before

-- a call returns before a call that its view doesn't hold is invoked
pub returns_before : (book : List Page) (events : List Event) → IsSketch book events
    → (a b : Call) (r : Record) (j k : ℕ) → slice_get events j ≡ Some (Return a)
    → slice_get events k ≡ Some (Invoke b) → record_of book a ≡ Some r
    → get_or r.view b.caller 0 ≤ b.number → j < k
returns_before book events h a b r j k at bt known unseen =
    stands_before book events h j k (Return a) (Invoke b) at bt
    (λ (s : Record) (e : record_of book a ≡ Some s). subst
    (λ (x : Record). get_or x.view b.caller 0 ≤ b.number) (same_Some r s (sym known ∙ e)) unseen)

-- a call is invoked before it returns
pub returns_later : (book : List Page) (events : List Event) → IsValid book → IsSketch book events
    → (call : Call) (j k : ℕ) → slice_get events j ≡ Some (Invoke call)
    → slice_get events k ≡ Some (Return call) → j < k
returns_later book events valid h call j k at bt =
    stands_before book events h j k (Invoke call) (Return call) at bt
    (λ (r : Record) (e : record_of book call ≡ Some r). omega (arith, valid.own call r e))

-- the invocation of a call of a book is at a given place or later, where no place at which it can
-- be is earlier
pub invoked_from : (book : List Page) (events : List Event) → IsSketch book events
    → (call : Call) (from : ℕ) → IsCall book call
    → ((k : ℕ) → slice_get events k ≡ Some (Invoke call) → from ≤ k)
    → StandsFrom events from (Invoke call)
invoked_from book events h call from is late = let there = (h.whole (Invoke call)).1 is in
    (there.0, late there.0 there.1, there.1)

-- an answered call returns at the place of its invocation or later
pub returns_from : (book : List Page) (events : List Event) → IsValid book → IsSketch book events
    → (call : Call) (j : ℕ) → slice_get events j ≡ Some (Invoke call)
    → IsAnswered book call → StandsFrom events j (Return call)
returns_from book events valid h call j at is =
    let there = (h.whole (Return call)).1 is in
    let less : j < there.0 = returns_later book events valid h call j there.0 at there.1 in
    (there.0, omega arith, there.1)

-- the next call of a caller is invoked later
pub next_from : (book : List Page) (events : List Event) → IsSketch book events
    → (call : Call) (j : ℕ) → slice_get events j ≡ Some (Invoke call)
    → IsCall book (next_of call) → StandsFrom events j (Invoke (next_of call))
next_from book events h call j at is =
    invoked_from book events h (next_of call) j is
    (λ k bt. let less : j < k = invoked_in_turn book events h call (next_of call) j k at bt
    (λ _. call.caller) (omega arith) in omega arith)

-- the interval of an answered call ends before a call that its view doesn't hold is invoked
ends_unseen : (book : List Page) (events : List Event) → IsSketch book events
    → (a : Interval) (b : Call) (r : Record) (k : ℕ) → IsIntervalOf book events a
    → slice_get events k ≡ Some (Invoke b) → record_of book a.call ≡ Some r
    → get_or r.view b.caller 0 ≤ b.number → a.end ≤ k
ends_unseen book events h a b r k is bt known unseen =
    let returned = is.returns (slice_get_within _ a.call.number r known) in
    let less : returned.0 < k =
    returns_before book events h a.call b r returned.0 k returned.2 bt known unseen in
    omega (arith, returned.1)

-- the interval of an unanswered call ends where a later call of its caller is invoked, or before
ends_in_turn : (book : List Page) (events : List Event) → IsSketch book events
    → (a : Interval) (b : Call) (k : ℕ) → IsIntervalOf book events a
    → IsCall book b → slice_get events k ≡ Some (Invoke b) → ¬ (IsAnswered book a.call)
    → a.call.caller ≡ b.caller → a.call.number < b.number → a.end ≤ k
ends_in_turn book events h a b k is made bt open_is caller less =
    let more : IsCall book (next_of a.call) = omega (arith, made, ap (calls_of book) caller) in
    let cut = is.breaks_off open_is more in
    elim (cases_eq (a.call.number + 1) b.number) [
      | inl same ↦
          let one : next_of a.call ≡ b = same_call (next_of a.call) b caller same in
          let there : slice_get events a.end ≡ Some (Invoke b) =
          cut ∙ ap (λ (call : Call). Some (Invoke call)) one in
          omega (arith, events_stand_once book events h a.end k (Invoke b) there bt)
      | inr other ↦
          let before : a.end < k = invoked_in_turn book events h
          (next_of a.call) b a.end k cut bt caller (omega (arith, other)) in
          omega arith
    ]

-- an interval ends before a call that its own precedes is invoked
pub ends_before : (book : List Page) (events : List Event) → IsValid book → IsSketch book events
    → (a : Interval) (b : Call) (k : ℕ) → IsIntervalOf book events a
    → IsCall book b → slice_get events k ≡ Some (Invoke b) → Precedes book a.call b → a.end ≤ k
ends_before book events valid h a b k is made bt (inl unseen) =
    let says : Record → Type 0 = λ r. get_or r.view b.caller 0 ≤ b.number in
    let known = some_from_is_some_and (record_of book a.call) says unseen in
    let low : says known.0 = subst (λ o. IsSomeAnd o says) known.1 unseen in
    ends_unseen book events h a b known.0 k is bt known.1 low
ends_before book events valid h a b k is made bt (inr (caller, less)) =
    elim (cases_lt a.call.number (answers_of book a.call.caller)) [
      | inl answered ↦
          let known = answer_stands book a.call answered in
          let low : get_or known.0.view b.caller 0 ≤ b.number = omega (
            arith,
            valid.own a.call known.0 known.1,
            ap (λ (i : ℕ). get_or known.0.view i 0) caller,
          ) in
          ends_unseen book events h a b known.0 k is bt known.1 low
      | inr open_is ↦ ends_in_turn book events h a b k is made bt
          (λ answered. absurd (omega (arith, answered))) caller less
    ]

-- an answered call whose interval ends before a call is invoked precedes it
pub precedes_later : (book : List Page) (events : List Event) → IsSketch book events
    → (a b : Interval) → IsIntervalOf book events a → IsIntervalOf book events b
    → IsAnswered book a.call → a.end ≤ b.begin → Precedes book a.call b.call
precedes_later book events h a b is bis answered less =
    let returned = is.returns answered in
    inl ((returns_come_before_unseen_calls book events h a.call b.call bis.call).0
    (returned.0, b.begin, returned.2, bis.begins, omega (arith, returned.1)))

-- an interval has at least one place, and ends no later than the events
pub lies_within : (book : List Page) (events : List Event) → IsValid book → IsSketch book events
    → (a : Interval) → IsIntervalOf book events a
    → (a.begin < a.end) × (a.end ≤ length events)
lies_within book events valid h a is =
    let begins : a.begin < length events = slice_get_within events a.begin _ is.begins in
    elim (cases_lt a.call.number (answers_of book a.call.caller)) [
      | inl answered ↦
          let returned = is.returns answered in
          let less : a.begin < returned.0 =
          returns_later book events valid h a.call a.begin returned.0 is.begins returned.2 in
          let within : returned.0 < length events =
          slice_get_within events returned.0 _ returned.2 in
          (omega (arith, returned.1), omega (arith, returned.1))
      | inr open_is ↦
          let unanswered : ¬ (IsAnswered book a.call) =
          λ answered. absurd (omega (arith, answered)) in
          elim (cases_lt (a.call.number + 1) (calls_of book a.call.caller)) [
            | inl more ↦
                let cut = is.breaks_off unanswered more in
                let less : a.begin < a.end = invoked_in_turn book events h a.call
                (next_of a.call) a.begin a.end is.begins cut (λ _. a.call.caller) (omega arith) in
                let within : a.end < length events = slice_get_within events a.end _ cut in
                (omega arith, omega arith)
            | inr none ↦
                let last = is.goes_on unanswered (λ more. absurd (omega (arith, more))) in
                (omega (arith, last), omega (arith, last))
          ]
    ]
