-- The book of timed calls.
use Rattle.std.specs.Prelude.{◌≡◌, ℕ, ◌↔◌, List, length, Some, None, slice_get}
use Rattle.book_base.specs.declared.call.Call.{Call}
use Rattle.book_base.specs.declared.call.Record.{Record}
use Rattle.book_base.specs.Book.{Page, IsCall, IsAnswered, Precedes, operation_of, record_of}
use Rattle.history_books.specs.declared.timed_call.TimedCall.{TimedCall}
use Rattle.history_books.specs.declared.timed_call.Answer.{Answer}
use Rattle.history_books.specs.Calls.{LogPrecedes}

-- A book is the book of timed calls, where `names` has the name of each call in the book: it has
-- these calls and no others, each with its operation word, those with an answer are answered with
-- its reply, and a call precedes another in the book exactly where it does so in the log.
pub record IsBookOf (calls : List TimedCall) (book : List Page) (names : List Call) : Type 0 where
  -- each call has a name
  pub named : length names ≡ length calls
  -- each call is a call of the book, with its operation word
  pub operations : (k : ℕ) (name : Call) (call : TimedCall) → slice_get names k ≡ Some name
      → slice_get calls k ≡ Some call → operation_of book name ≡ Some call.op
  -- a call with an answer is answered, with its reply
  pub answered : (k : ℕ) (name : Call) (call : TimedCall) (answer : Answer)
      → slice_get names k ≡ Some name → slice_get calls k ≡ Some call → call.answer ≡ Some answer
      → (r : Record) × (record_of book name ≡ Some r) × (r.reply ≡ answer.reply)
  -- a call without an answer is unanswered
  pub unanswered : (k : ℕ) (name : Call) (call : TimedCall) → slice_get names k ≡ Some name
      → slice_get calls k ≡ Some call → call.answer ≡ None → IsAnswered book name → ⊥
  -- each call of the book is one of the calls
  pub whole : (name : Call) → IsCall book name → (k : ℕ) × (slice_get names k ≡ Some name)
  -- different calls have different names
  pub apart : (j k : ℕ) (name : Call) → slice_get names j ≡ Some name
      → slice_get names k ≡ Some name → j ≡ k
  -- the book has the precedence of the log
  pub precedence : (a b : ℕ) (first second : Call) → slice_get names a ≡ Some first
      → slice_get names b ≡ Some second → (Precedes book first second ↔ LogPrecedes calls a b)
