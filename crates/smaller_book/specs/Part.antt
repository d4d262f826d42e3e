-- A part of a book: some of its calls in their order, numbered anew for each caller, with views
-- that count only these calls.
use Rattle.std.specs.Prelude.{◌≡◌, ℕ, ◌<◌, ◌≤◌, ltb, List, [], length, sum, Some, IsSomeAnd, slice_index, slice_index_or}
use Rattle.std.specs.List.{prefix_len}
use Rattle.book_base.specs.declared.call.Call.{Call}
use Rattle.book_base.specs.declared.call.Record.{Record}
use Rattle.book_base.specs.SeqSpec.{spec_from}
use Rattle.book_base.specs.Book.{Page, calls_of, answers_of, IsCall, IsAnswered, operation_of, record_of, announced}
use Rattle.book_base.specs.Order.{HasLegalOrder}

-- how many calls a book has
abbrev pub size_of : List Page → ℕ
size_of book = sum (announced book)

-- The numbers of those calls of a caller that a part has: the caller's list among `names`, or the
-- empty list where `names` has no list for the caller.
abbrev pub numbers_of : List (List ℕ) → ℕ → List ℕ
numbers_of names i = slice_index_or names i []

-- Each number of the list is greater than all those before it.
abbrev pub AreRising : List ℕ → Type 0
AreRising numbers = (j k : ℕ) → j < k → k < length numbers
    → slice_index numbers j < slice_index numbers k

-- How many numbers stand in a list before the first one that isn't below a bound; in a rising list
-- these are all that are below it.
abbrev pub count_below : List ℕ → ℕ → ℕ
count_below numbers bound = prefix_len (λ number. ltb number bound) numbers

-- The call of the book that a call of the part was before it was numbered anew.
abbrev pub original : List (List ℕ) → Call → Call
original names call =
    record { caller = call.caller; number = slice_index (numbers_of names call.caller) call.number }

-- A call of the book is named: its number is in the list of its caller, and so the part has it.
abbrev pub IsNamed : List (List ℕ) → Call → Type 0
IsNamed names call =
    (k : ℕ) × (k < length (numbers_of names call.caller))
    × (slice_index (numbers_of names call.caller) k ≡ call.number)

-- A record of the part is the book's record with a new view: the reply is the same, and the view
-- counts of each caller those calls of the book's view that the part has.
pub record IsRenumbered (names : List (List ℕ)) (whole small : Record) : Type 0 where
  pub reply : small.reply ≡ whole.reply
  pub view : (i : ℕ)
      → slice_index small.view i ≡ count_below (numbers_of names i) (slice_index whole.view i)

-- A part of a book has the calls of the book that these numbers name, in their order.
pub record IsPart (book : List Page) (names : List (List ℕ)) (part : List Page) : Type 0 where
  -- the part has as many callers as the book
  pub callers : length part ≡ length book
  -- each caller has as many calls in the part as its list has numbers
  pub calls : (i : ℕ) → calls_of part i ≡ length (numbers_of names i)
  -- each caller's list of numbers rises, and so its calls keep their order
  pub rising : (i : ℕ) → AreRising (numbers_of names i)
  -- each call of the part has the same operation as its original in the book
  pub operations : (call : Call) → IsCall part call
      → operation_of part call ≡ operation_of book (original names call)
  -- each caller has at most as many records in the part as calls
  pub answers : (i : ℕ) → answers_of part i ≤ calls_of part i
  -- each call that is answered in the part was an answered call of the book, and its record is the
  -- book's record with a new view
  pub records : (call : Call) (small : Record) → record_of part call ≡ Some small
      → IsSomeAnd (record_of book (original names call)) (λ whole. IsRenumbered names whole small)

-- Each call of the part that is answered in the book is answered in the part.
abbrev pub KeepsAnswers : List Page → List (List ℕ) → List Page → Type 0
KeepsAnswers book names part = (call : Call) → IsCall part call
    → IsAnswered book (original names call) → IsAnswered part call

-- From whichever list the object begins: where the book has a legal order, the part has one; and
-- where the part has none, the book has none.
abbrev pub CarriesOver : (List ℕ → ℕ → List ℕ × ℕ) → List Page → List Page → Type 0
CarriesOver next book part = (list : List ℕ) → HasLegalOrder (spec_from list next) book
    → HasLegalOrder (spec_from list next) part
