-- Laws of books of timed calls.
use Rattle.std.specs.Prelude.{◌≡◌, ℕ, ◌≤◌, List, length, Some, slice_get}
use Rattle.book_base.specs.declared.call.Call.{Call}
use Rattle.book_base.specs.SeqSpec.{SeqSpec}
use Rattle.book_base.specs.Book.{Page, IsValid, Precedes}
use Rattle.book_base.specs.Order.{HasLegalOrder}
use Rattle.history_books.specs.declared.timed_call.TimedCall.{TimedCall}
use Rattle.history_books.specs.declared.timed_call.Answer.{Answer}
use Rattle.history_books.specs.BookOf.{IsBookOf}

-- A call is wider than another where it was invoked no later, and returned no earlier where it has
-- an answer.
pub record IsWider (call wide : TimedCall) : Type 0 where
  pub invoked : wide.invoked ≤ call.invoked
  pub returned : (late : Answer) → wide.answer ≡ Some late
      → (answer : Answer) × (call.answer ≡ Some answer) × (answer.returned ≤ late.returned)

-- The calls of a list are wider than those at the same places of another list.
abbrev pub AreWider : List TimedCall → List TimedCall → Type 0
AreWider calls wides = (k : ℕ) (wide : TimedCall) → slice_get wides k ≡ Some wide
    → (call : TimedCall) × (slice_get calls k ≡ Some call) × IsWider call wide

-- Where calls are taken as wider than they were, those that precede others in the book of the wider
-- ones do so in the book of the calls.
abbrev pub WiderCallsPrecedeLess : Type 0
WiderCallsPrecedeLess = (calls wides : List TimedCall) (book other : List Page)
    (names others : List Call) → IsBookOf calls book names → IsBookOf wides other others
    → AreWider calls wides → (a b : ℕ) (first second one two : Call)
    → slice_get names a ≡ Some first → slice_get names b ≡ Some second
    → slice_get others a ≡ Some one → slice_get others b ≡ Some two
    → Precedes other one two → Precedes book first second

-- Two calls have the same operation, and where both have an answer, the same reply.
pub record IsSameCall (call wide : TimedCall) : Type 0 where
  pub operation : wide.op ≡ call.op
  pub reply : (answer late : Answer) → call.answer ≡ Some answer → wide.answer ≡ Some late
      → late.reply ≡ answer.reply

-- The calls of two lists are the same ones, place by place.
pub record AreSameCalls (calls wides : List TimedCall) : Type 0 where
  pub many : length wides ≡ length calls
  pub same : (k : ℕ) (call wide : TimedCall) → slice_get calls k ≡ Some call
      → slice_get wides k ≡ Some wide → IsSameCall call wide

-- Where the book of some calls has a legal order, for a sequential object, a valid book of the same
-- calls, taken as wider than they were, has one too.
abbrev pub WiderCallsKeepLegalOrders : Type 0
WiderCallsKeepLegalOrders = (spec : SeqSpec) (calls wides : List TimedCall)
    (book other : List Page) (names others : List Call) → IsBookOf calls book names
    → IsBookOf wides other others → IsValid other → AreWider calls wides → AreSameCalls calls wides
    → HasLegalOrder spec book → HasLegalOrder spec other
