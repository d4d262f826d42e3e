-- The rule of read-only calls: they may be left out of a book.
use Rattle.std.specs.Prelude.{◌≡◌, ℕ, ◌↔◌, List, unwrap_or, Some}
use Rattle.book_base.specs.declared.call.Call.{Call}
use Rattle.book_base.specs.declared.call.Record.{Record}
use Rattle.book_base.specs.SeqSpec.{spec_from}
use Rattle.book_base.specs.Book.{Page, IsCall, IsAnswered, operation_of, record_of, IsValid}
use Rattle.book_base.specs.Order.{HasLegalOrder}
use Rattle.book_base.specs.Reaching.{Leaves}
use Rattle.smaller_book.specs.Part.{IsNamed, IsPart, KeepsAnswers, CarriesOver}

-- A call may have this reply: the reply is the recorded one where the call is answered, and any
-- where it isn't.
abbrev pub MayHave : List Page → Call → ℕ → Type 0
MayHave book call reply = (r : Record) → record_of book call ≡ Some r → r.reply ≡ reply

-- An operation is read-only with every reply: it changes no list of the object.
abbrev pub LeavesAlways : (List ℕ → ℕ → List ℕ × ℕ) → ℕ → Type 0
LeavesAlways next op = (reply : ℕ) → Leaves next op reply

-- A call is read-only: its operation is so with the recorded reply, or with every reply where the
-- call is unanswered.
abbrev pub IsReadOnly : (List ℕ → ℕ → List ℕ × ℕ) → List Page → Call → Type 0
IsReadOnly next book call =
    IsCall book call
    × ((reply : ℕ) → MayHave book call reply
    → Leaves next (unwrap_or (operation_of book call) 0) reply)

-- Each call of the book that isn't named by these numbers is read-only.
abbrev pub LacksReadOnlyAlone : (List ℕ → ℕ → List ℕ × ℕ) → List Page → List (List ℕ) → Type 0
LacksReadOnlyAlone next book names = (call : Call) → IsCall book call → ¬ IsNamed names call
    → IsReadOnly next book call

-- Where a part lacks only read-only calls of the book, a legal order of the book gives one of the
-- part, whichever list the object begins with.
abbrev pub HasOneWithoutReadOnly : Type 0
HasOneWithoutReadOnly =
    (next : List ℕ → ℕ → List ℕ × ℕ) (book : List Page) (names : List (List ℕ)) (part : List Page)
    → IsPart book names part → LacksReadOnlyAlone next book names → CarriesOver next book part

-- Each call of the book that isn't named by these numbers is unanswered and read-only.
abbrev pub LacksOpenReadOnlyAlone : (List ℕ → ℕ → List ℕ × ℕ) → List Page → List (List ℕ) → Type 0
LacksOpenReadOnlyAlone next book names = (call : Call) → IsCall book call → ¬ IsNamed names call
    → ¬ IsAnswered book call × IsReadOnly next book call

-- Where a part of a valid book has all its answers and lacks only unanswered read-only calls, the
-- book has a legal order exactly where the part has one, whichever list the object begins with.
abbrev pub HasOneExactlyWithoutOpenReadOnly : Type 0
HasOneExactlyWithoutOpenReadOnly =
    (next : List ℕ → ℕ → List ℕ × ℕ) (book : List Page) (names : List (List ℕ)) (part : List Page)
    → IsValid book → IsPart book names part → KeepsAnswers book names part
    → LacksOpenReadOnlyAlone next book names → (list : List ℕ)
    → (HasLegalOrder (spec_from list next) book ↔ HasLegalOrder (spec_from list next) part)
