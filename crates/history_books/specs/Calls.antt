-- Timed calls of a log, and which of them precede which. A call is named by its place in the list.
use Rattle.std.specs.Prelude.{◌≡◌, ℕ, ◌<◌, ◌≤◌, List, Some, slice_get}
use Rattle.history_books.specs.declared.timed_call.TimedCall.{TimedCall}
use Rattle.history_books.specs.declared.timed_call.Answer.{Answer}

-- a call doesn't return before it is invoked
abbrev pub IsLasting : TimedCall → Type 0
IsLasting call = (answer : Answer) → call.answer ≡ Some answer → call.invoked ≤ answer.returned

-- Calls are in order where they are listed by their invocations, and no call returns before it is
-- invoked.
pub record IsInOrder (calls : List TimedCall) : Type 0 where
  pub sorted : (j k : ℕ) (a b : TimedCall) → j ≤ k → slice_get calls j ≡ Some a
      → slice_get calls k ≡ Some b → a.invoked ≤ b.invoked
  pub lasting : (k : ℕ) (call : TimedCall) → slice_get calls k ≡ Some call → IsLasting call

-- A call of a log precedes another where it returned before the other one was invoked (Herlihy and
-- Wing 1990).
pub record LogPrecedes (calls : List TimedCall) (a b : ℕ) : Type 0 where
  pub first : TimedCall
  pub second : TimedCall
  pub answer : Answer
  pub first_at : slice_get calls a ≡ Some first
  pub second_at : slice_get calls b ≡ Some second
  pub answered : first.answer ≡ Some answer
  pub before : answer.returned < second.invoked

-- The moment comes before the invocation of the call at the place `count`, where there is one.
abbrev pub IsDue : List TimedCall → ℕ → ℕ → Type 0
IsDue calls count returned = (next : TimedCall) → slice_get calls count ≡ Some next
    → returned < next.invoked
