-- When the calls of a book may take effect, as spans of moments say it.
use Rattle.std.specs.Prelude.{◌≡◌, ℕ, ◌+◌, ◌<◌, ◌≤◌, List, Some}
use Rattle.book_base.specs.declared.call.Call.{Call}
use Rattle.book_base.specs.declared.call.Record.{Record}
use Rattle.queue_pairs.specs.declared.spans.Span.{Span}
use Rattle.book_base.specs.Cut.{Holds}
use Rattle.book_base.specs.Book.{Page, answers_of, record_of}
use Rattle.queue_pairs.specs.declared.TheConstants.{NEVER}
use Rattle.queue_pairs.specs.Moments.{moment_of, IsHeldBy}

-- A span says when a call may take effect: from the moment of the first view that holds it up to
-- that of its own view. Where no view holds the call, the first moment is `NEVER` or later, and
-- where the call is unanswered, the last is `NEVER`.
pub record IsSpanOf (book : List Page) (call : Call) (span : Span) : Type 0 where
  pub held : span.first < NEVER → IsHeldBy book call span.first
  pub least : (m : ℕ) → IsHeldBy book call m → (span.first ≤ m) × (span.first < NEVER)
  pub answered : (r : Record) → record_of book call ≡ Some r
      → (span.last ≡ moment_of r) × (span.last < NEVER)
  pub unanswered : answers_of book call.caller ≤ call.number → span.last ≡ NEVER

-- Of a caller's records, those with a number below `low` have views that don't hold a call, and
-- those with a number from `high` on have views that hold it. `low` is at most `high`, and `high`
-- is at most the number of the caller's records.
pub record AreHolding (book : List Page) (caller : ℕ) (call : Call) (low high : ℕ) : Type 0 where
  pub ordered : low ≤ high
  pub few : high ≤ answers_of book caller
  pub below : (k : ℕ) (r : Record) → k < low
      → record_of book (record { caller = caller; number = k }) ≡ Some r → Holds r.view call → ⊥
  pub above : (k : ℕ) (r : Record) → high ≤ k
      → record_of book (record { caller = caller; number = k }) ≡ Some r → Holds r.view call

-- The moment `first` is no later than that of any view that holds a call and is of a caller below
-- the number `below`. It is `NEVER`, or some view of the book with no later moment holds the call.
pub record IsFirstBelow (book : List Page) (call : Call) (below first : ℕ) : Type 0 where
  pub few : first ≤ NEVER
  pub held : first < NEVER → IsHeldBy book call first
  pub least : (other : Call) (r : Record) → other.caller < below
      → record_of book other ≡ Some r → Holds r.view call → first ≤ moment_of r
