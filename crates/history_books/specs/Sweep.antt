-- A book that is made call by call, in the order of invocations.
use Rattle.std.specs.Prelude.{◌≡◌, ◌≢◌, ℕ, ◌+◌, ◌<◌, ◌≤◌, ◌↔◌, List, length, Option, Some, None, slice_get}
use Rattle.book_base.specs.declared.call.Call.{Call}
use Rattle.book_base.specs.declared.call.Record.{Record}
use Rattle.book_base.specs.declared.TheConstants.{MAX_CALLS}
use Rattle.book_base.specs.Cut.{Holds}
use Rattle.book_base.specs.Book.{Page, IsCall, calls_of, answers_of, operation_of, record_of, first_unanswered}
use Rattle.history_books.specs.declared.timed_call.TimedCall.{TimedCall}
use Rattle.history_books.specs.declared.timed_call.Answer.{Answer}
use Rattle.history_books.specs.Calls.{IsDue}

-- A view holds exactly those of the named calls that were invoked by a moment.
abbrev pub SeesWhatWasInvoked : List TimedCall → List Call → List ℕ → ℕ → Type 0
SeesWhatWasInvoked calls names view moment = (k : ℕ) (name : Call) (call : TimedCall)
    → slice_get names k ≡ Some name → slice_get calls k ≡ Some call
    → (Holds view name ↔ call.invoked ≤ moment)

-- what a record says of an answered call: its reply is that of the call's answer, its view holds
-- what was invoked by the call's return, and the call returned before the next call is invoked
pub record IsRecordFor (calls : List TimedCall) (names : List Call) (call : TimedCall) (r : Record)
    : Type 0 where
  pub answer : Answer
  pub answered : call.answer ≡ Some answer
  pub reply : r.reply ≡ answer.reply
  pub view : SeesWhatWasInvoked calls names r.view answer.returned
  pub due : IsDue calls (length names) answer.returned

-- The book has the first calls, as many as there are names. For each caller `pending` has the place
-- of its pending call, where it has one.
pub record IsSwept (calls : List TimedCall) (book : List Page) (names : List Call)
    (pending : List (Option ℕ)) : Type 0 where
  -- there are no more names than calls
  pub few : length names ≤ length calls
  -- each caller may have a pending call
  pub wide : length pending ≡ length book
  -- each named call is a call of the book, with its operation word
  pub operations : (k : ℕ) (name : Call) (call : TimedCall) → slice_get names k ≡ Some name
      → slice_get calls k ≡ Some call → operation_of book name ≡ Some call.op
  -- each call of the book has a name
  pub whole : (name : Call) → IsCall book name → (k : ℕ) × (slice_get names k ≡ Some name)
  -- different calls have different names
  pub apart : (j k : ℕ) (name : Call) → slice_get names j ≡ Some name
      → slice_get names k ≡ Some name → j ≡ k
  -- an answered call has a record with its reply and the calls that were invoked by its return
  pub answered : (k : ℕ) (name : Call) (call : TimedCall) (r : Record)
      → slice_get names k ≡ Some name → slice_get calls k ≡ Some call
      → record_of book name ≡ Some r → IsRecordFor calls names call r
  -- a pending call is its caller's first unanswered one, and its last one
  pub waits : (i j : ℕ) → slice_get pending i ≡ Some (Some j)
      → (slice_get names j ≡ Some (first_unanswered book i))
      × (calls_of book i ≡ answers_of book i + 1)
  -- a caller without a pending call has none that is unanswered
  pub idle : (i : ℕ) → slice_get pending i ≡ Some None → calls_of book i ≡ answers_of book i
  -- each named call was invoked by the return of each pending one
  pub overlap : (i j k : ℕ) (late call : TimedCall) (answer : Answer)
      → slice_get pending i ≡ Some (Some j) → slice_get calls j ≡ Some late
      → late.answer ≡ Some answer → k < length names → slice_get calls k ≡ Some call
      → call.invoked ≤ answer.returned

-- a pending call didn't return before the call at the place `count` was invoked
abbrev pub IsNotDue : List TimedCall → ℕ → Option ℕ → Type 0
IsNotDue calls count pending = (j : ℕ) (call : TimedCall) (answer : Answer) → pending ≡ Some j
    → slice_get calls j ≡ Some call → call.answer ≡ Some answer
    → IsDue calls count answer.returned → ⊥

-- no caller below `below` has a pending call that returned before the call at the place `count` was
-- invoked
abbrev pub NoneIsDueBelow : ℕ → List TimedCall → ℕ → List (Option ℕ) → Type 0
NoneIsDueBelow below calls count pending = (i : ℕ) (its : Option ℕ) → i < below
    → slice_get pending i ≡ Some its → IsNotDue calls count its

-- no pending call returned before the call at the place `count` was invoked
abbrev pub NoneIsDue : List TimedCall → ℕ → List (Option ℕ) → Type 0
NoneIsDue calls count pending = (i : ℕ) (its : Option ℕ) → slice_get pending i ≡ Some its
    → IsNotDue calls count its

-- a caller has no pending call, and fewer calls than a caller may have
abbrev pub IsFree : List Page → List (Option ℕ) → ℕ → Type 0
IsFree book pending i = (slice_get pending i ≡ Some None) × (calls_of book i < MAX_CALLS)

-- other callers than this one have the same pending calls
abbrev pub SameBut : ℕ → List (Option ℕ) → List (Option ℕ) → Type 0
SameBut i pending other = (j : ℕ) → j ≢ i → slice_get other j ≡ slice_get pending j

-- some caller has no pending call
abbrev pub HasIdle : List (Option ℕ) → Type 0
HasIdle pending = (i : ℕ) × (slice_get pending i ≡ Some None)
