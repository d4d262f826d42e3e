-- What a swept book says once all calls are named and none is due, and where no caller is free.
use Rattle.std.proofs.Common.{◌≡◌, ℕ, ◌+◌, ◌-◌, ◌<◌, ◌≤◌, ◌⊎◌, ◌∙◌, List, length, Option, Some, None, refl, sym, ap, subst, inl, inr, slice_get, arith}
use Rattle.std.specs.Prelude.{IsSomeAnd, slice_index}
use Rattle.std.proofs.lemmas.Bool.{cases_lt}
use Rattle.std.proofs.lemmas.Option.{none-some, same_Some, slice_get_cases, slice_get_past}
use Rattle.book_base.specs.declared.call.Call.{Call}
use Rattle.book_base.specs.declared.call.Record.{Record}
use Rattle.book_base.specs.declared.TheConstants.{MAX_CALLS}
use Rattle.book_base.specs.Book.{Page, calls_of, answers_of, IsCall, IsAnswered, record_of, IsValid, IsSmall, first_unanswered}
use Rattle.book_base.proofs.PageLemmas.{caller_from_call}
use Rattle.book_base.proofs.ViewLemmas.{same_call, answer_stands, precedes_by_view}
use Rattle.history_books.specs.declared.timed_call.TimedCall.{TimedCall}
use Rattle.history_books.specs.declared.timed_call.Answer.{Answer}
use Rattle.history_books.specs.Calls.{LogPrecedes}
use Rattle.history_books.specs.BookOf.{IsBookOf}
use Rattle.history_books.specs.Sweep.{IsSwept, NoneIsDue, IsFree}
use Rattle.history_books.specs.Causes.{AreGiven, IsBusy, IsFull, NoneTakes}
use Rattle.history_books.proofs.Sweeping.{there_is, one_item, named_is_call}

-- what is so of the value in a `Some`
some_and : {X : Type 0} (o : Option X) (P : X → Type 0) → IsSomeAnd o P
    → (x : X) × (o ≡ Some x) × P x
some_and None P h = absurd h
some_and (Some x) P h = (x, refl, h)

-- a call of the book is answered, or it is its caller's pending call
record IsPendingAt (book : List Page) (names : List Call) (pending : List (Option ℕ)) (name : Call)
    : Type 0 where
  place : ℕ
  at : slice_get pending name.caller ≡ Some (Some place)
  named : slice_get names place ≡ Some name
  last : calls_of book name.caller ≡ name.number + 1

unanswered_is_pending : (calls : List TimedCall) (book : List Page) (names : List Call)
    (pending : List (Option ℕ)) → IsSwept calls book names pending → (name : Call)
    → IsCall book name → answers_of book name.caller ≤ name.number → (its : Option ℕ)
    → slice_get pending name.caller ≡ Some its → IsPendingAt book names pending name
unanswered_is_pending calls book names pending h name is past None at =
    absurd (omega (arith, h.idle name.caller at))
unanswered_is_pending calls book names pending h name is past (Some j) at =
    let waits = h.waits name.caller j at in
    let number : answers_of book name.caller ≡ name.number = omega (arith, waits.1) in
    let first : first_unanswered book name.caller ≡ name =
    same_call (first_unanswered book name.caller) name refl number in
    record {
      place = j;
      at = at;
      named = waits.0 ∙ ap (λ (c : Call). Some c) first;
      last = omega (arith, waits.1);
    }

answered_or_pending : (calls : List TimedCall) (book : List Page) (names : List Call)
    (pending : List (Option ℕ)) → IsSwept calls book names pending → (name : Call)
    → IsCall book name → IsAnswered book name ⊎ IsPendingAt book names pending name
answered_or_pending calls book names pending h name is =
    let inside : name.caller < length book =
    caller_from_call book name.caller name.number is in
    elim (cases_lt name.number (answers_of book name.caller)) [
      | inl below ↦ inl below
      | inr past ↦ elim (slice_get_cases pending name.caller).1 [
        | inl here ↦ inr (unanswered_is_pending calls book names pending h name is past here.0
            here.2)
        | inr over ↦ absurd (omega (arith, over.0, h.wide))
      ]
    ]

-- an answered call whose view doesn't hold another one precedes it in the log
unseen_is_later : (calls : List TimedCall) (book : List Page) (names : List Call)
    (pending : List (Option ℕ)) → IsSwept calls book names pending → (a b : ℕ)
    (first second : Call) (r : Record) → slice_get names a ≡ Some first
    → slice_get names b ≡ Some second → record_of book first ≡ Some r
    → slice_index r.view second.caller ≤ second.number → LogPrecedes calls a b
unseen_is_later calls book names pending h a b first second r first_at second_at stands unseen =
    let one = there_is names calls a first h.few first_at in
    let two = there_is names calls b second h.few second_at in
    let known = h.answered a first one.0 r first_at one.1 stands in
    record {
      first = one.0;
      second = two.0;
      answer = known.answer;
      first_at = one.1;
      second_at = two.1;
      answered = known.answered;
      before = elim (cases_lt known.answer.returned two.0.invoked) [
        | inl less ↦ less
        | inr early ↦
            let held = (known.view b second two.0 second_at two.1).1 early in
            absurd (omega (arith, held))
      ];
    }

-- of two calls of one caller the one with the lesser number precedes the other in the log
turns_from_swept : (calls : List TimedCall) (book : List Page) (names : List Call)
    (pending : List (Option ℕ)) → IsValid book → IsSwept calls book names pending → (a b : ℕ)
    (first second : Call) → slice_get names a ≡ Some first → slice_get names b ≡ Some second
    → first.caller ≡ second.caller → first.number < second.number → LogPrecedes calls a b
turns_from_swept calls book names pending valid h a b first second first_at second_at same less =
    let is : IsCall book first = named_is_call calls book names pending h a first first_at in
    let later : second.number < calls_of book first.caller =
    subst (λ (i : ℕ). second.number < calls_of book i) (sym same)
    (named_is_call calls book names pending h b second second_at) in
    elim (answered_or_pending calls book names pending h first is) [
      | inl answered ↦
          let stands = answer_stands book first answered in
          unseen_is_later calls book names pending h a b first second stands.0 first_at second_at
          stands.1 (precedes_by_view book valid first second stands.0 stands.1 same less)
      | inr pends ↦ absurd (omega (arith, pends.last))
    ]

pub given_from_swept : (calls : List TimedCall) (book : List Page) (names : List Call)
    (pending : List (Option ℕ)) → IsValid book → IsSwept calls book names pending
    → AreGiven calls names
given_from_swept calls book names pending valid h = record {
  apart = h.apart;
  numbered = λ k number name at less.
      let is = named_is_call calls book names pending h k name at in
      h.whole (record { caller = name.caller; number = number }) (omega arith);
  turns = λ j k a b first second same less.
      turns_from_swept calls book names pending valid h j k a b first second same less;
}

-- a caller with a pending call is busy with it
pub busy_from_pending : (calls : List TimedCall) (book : List Page) (names : List Call)
    (pending : List (Option ℕ)) → IsSwept calls book names pending
    → NoneIsDue calls (length names) pending → (i j : ℕ) → slice_get pending i ≡ Some (Some j)
    → IsBusy calls names i
busy_from_pending calls book names pending h none i j at = record {
  place = j;
  name = first_unanswered book i;
  named = (h.waits i j at).0;
  its = refl;
  overlaps = λ p. none i (Some j) at j p.first p.answer refl p.first_at p.answered
      (λ next next_at.
      let same : next ≡ p.second = one_item calls (length names) (length names) next p.second
      refl next_at p.second_at in
      subst (λ (c : TimedCall). p.answer.returned < c.invoked) (sym same) p.before);
}

-- a caller without a pending call that can take no further one is full
pub full_from_idle : (calls : List TimedCall) (book : List Page) (names : List Call)
    (pending : List (Option ℕ)) → IsSmall book → IsSwept calls book names pending → (i : ℕ)
    → slice_get pending i ≡ Some None → ¬ (IsFree book pending i) → IsFull names i
full_from_idle calls book names pending small h i at taken =
    let many : calls_of book i ≡ MAX_CALLS = elim (cases_lt (calls_of book i) MAX_CALLS) [
      | inl less ↦ absurd (taken (at, less))
      | inr over ↦ omega (arith, small.calls i)
    ] in
    let last : Call = record { caller = i; number = MAX_CALLS - 1 } in
    let found = h.whole last (omega arith) in
    (found.0, last, found.1, refl, refl)

taken_case : (calls : List TimedCall) (book : List Page) (names : List Call)
    (pending : List (Option ℕ)) → IsSmall book → IsSwept calls book names pending
    → NoneIsDue calls (length names) pending → (i : ℕ) → ¬ (IsFree book pending i)
    → (its : Option ℕ) → slice_get pending i ≡ Some its → IsBusy calls names i ⊎ IsFull names i
taken_case calls book names pending small h none i taken None at =
    inr (full_from_idle calls book names pending small h i at taken)
taken_case calls book names pending small h none i taken (Some j) at =
    inl (busy_from_pending calls book names pending h none i j at)

-- where no caller is free, none can take the next call
pub none_takes : (calls : List TimedCall) (book : List Page) (names : List Call)
    (pending : List (Option ℕ)) → IsValid book → IsSmall book → IsSwept calls book names pending
    → NoneIsDue calls (length names) pending → length names < length calls
    → ((i : ℕ) → i < length book → ¬ (IsFree book pending i))
    → NoneTakes (length book) calls (length names) names
none_takes calls book names pending valid small h none next taken = record {
  call = next;
  before = refl;
  given = given_from_swept calls book names pending valid h;
  taken = λ i low. elim (slice_get_cases pending i).1 [
    | inl here ↦ taken_case calls book names pending small h none i (taken i low) here.0 here.2
    | inr over ↦ absurd (omega (arith, over.0, h.wide))
  ];
}

busy_case : (calls : List TimedCall) (book : List Page) (names : List Call)
    (pending : List (Option ℕ)) → IsSwept calls book names pending
    → NoneIsDue calls (length names) pending
    → (((i : ℕ) × (slice_get pending i ≡ Some None)) → ⊥)
    → (i : ℕ) → (its : Option ℕ) → slice_get pending i ≡ Some its → IsBusy calls names i
busy_case calls book names pending h none idle i None at = absurd (idle (i, at))
busy_case calls book names pending h none idle i (Some j) at =
    busy_from_pending calls book names pending h none i j at

-- where no caller is idle, each is busy
pub all_busy : (calls : List TimedCall) (book : List Page) (names : List Call)
    (pending : List (Option ℕ)) → IsSwept calls book names pending
    → NoneIsDue calls (length names) pending
    → (((i : ℕ) × (slice_get pending i ≡ Some None)) → ⊥)
    → (i : ℕ) → i < length book → IsBusy calls names i
all_busy calls book names pending h none idle i low = elim (slice_get_cases pending i).1 [
  | inl here ↦ busy_case calls book names pending h none idle i here.0 here.2
  | inr over ↦ absurd (omega (arith, over.0, h.wide))
]

-- once all calls are named and none is due, the swept book is the book of the calls
pub book_from_swept : (calls : List TimedCall) (book : List Page) (names : List Call)
    (pending : List (Option ℕ)) → IsValid book → IsSwept calls book names pending
    → NoneIsDue calls (length names) pending → length names ≡ length calls
    → IsBookOf calls book names
book_from_swept calls book names pending valid h none all =
    let past : (next : TimedCall) → slice_get calls (length names) ≡ Some next → ⊥ = λ next at.
    none-some next (sym (slice_get_past calls (length names) (omega arith)) ∙ at)
    in
    let answer : (k : ℕ) (name : Call) (call : TimedCall) (its : Answer)
    → slice_get names k ≡ Some name → slice_get calls k ≡ Some call → call.answer ≡ Some its
    → (r : Record) × (record_of book name ≡ Some r) × (r.reply ≡ its.reply) =
    λ k name call its at call_at is.
    elim (answered_or_pending calls book names pending h name
    (named_is_call calls book names pending h k name at)) [
      | inl answered ↦
          let stands = answer_stands book name answered in
          let known = h.answered k name call stands.0 at call_at stands.1 in
          let same : known.answer ≡ its =
          same_Some known.answer its (sym known.answered ∙ is) in
          (stands.0, stands.1, known.reply ∙ ap (λ (a : Answer). a.reply) same)
      | inr pends ↦
          let place : pends.place ≡ k = h.apart pends.place k name pends.named at in
          let there : slice_get calls pends.place ≡ Some call =
          ap (slice_get calls) place ∙ call_at in
          absurd (none name.caller (Some pends.place) pends.at pends.place call its refl there is
          (λ next next_at. absurd (past next next_at)))
    ]
    in
    record {
      named = all;
      operations = h.operations;
      answered = answer;
      unanswered = λ k name call at call_at none_is answered.
          let stands = answer_stands book name answered in
          let known = h.answered k name call stands.0 at call_at stands.1 in
          none-some known.answer (sym none_is ∙ known.answered);
      whole = h.whole;
      apart = h.apart;
      precedence = λ a b first second first_at second_at. (
        λ precedes. elim precedes [
          | inl seen ↦
              let stands = some_and (record_of book first)
              (λ (r : Record). slice_index r.view second.caller ≤ second.number) seen in
              unseen_is_later calls book names pending h a b first second stands.0 first_at
              second_at stands.1 stands.2
          | inr (same, less) ↦ turns_from_swept calls book names pending valid h a b first second
              first_at second_at same less
        ],
        λ p.
            let stands = answer a first p.first p.answer first_at p.first_at p.answered in
            let known = h.answered a first p.first stands.0 first_at p.first_at stands.1 in
            let same : known.answer ≡ p.answer =
            same_Some known.answer p.answer (sym known.answered ∙ p.answered) in
            let returned : known.answer.returned ≡ p.answer.returned =
            ap (λ (x : Answer). x.returned) same in
            let unseen : slice_index stands.0.view second.caller ≤ second.number =
            elim (cases_lt second.number (slice_index stands.0.view second.caller)) [
              | inl held ↦
                  let early = (known.view b second p.second second_at p.second_at).0 held in
                  absurd (omega (arith, early, p.before))
              | inr le ↦ le
            ] in
            inl (subst (λ (o : Option Record).
            IsSomeAnd o (λ r. slice_index r.view second.caller ≤ second.number))
            (sym stands.1) unseen),
      );
    }
