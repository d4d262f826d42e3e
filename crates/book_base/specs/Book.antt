-- Books: what the callers of a concurrent object did, as each of them recorded it.
use Rattle.std.specs.Prelude.{◌≡◌, ℕ, ◌+◌, ◌<◌, ◌≤◌, ◌⊎◌, ◌++◌, ◌∷◌, [], List, length, map, replicate, Option, Some, IsSomeAnd, slice_get, slice_index, slice_index_or, slice_set}
use Rattle.book_base.specs.declared.call.Call.{Call}
use Rattle.book_base.specs.declared.call.Record.{Record}
use Rattle.book_base.specs.declared.TheConstants.{MAX_CALLERS, MAX_CALLS}
use Rattle.book_base.specs.Cut.{IsWithin, AreComparable}

-- one caller's page of a book: the operation words of its calls, and the records of those that are
-- answered
pub record Page : Type 0 where
  pub operations : List ℕ
  pub records : List Record

-- the page of a caller, which is empty where the book has no such caller
abbrev pub page_of : List Page → ℕ → Page
page_of book i = slice_index_or book i (record { operations = []; records = [] })

-- how many calls a caller made
abbrev pub calls_of : List Page → ℕ → ℕ
calls_of book i = length (page_of book i).operations

-- how many of a caller's calls are answered
abbrev pub answers_of : List Page → ℕ → ℕ
answers_of book i = length (page_of book i).records

-- the operation word of a call
abbrev pub operation_of : List Page → Call → Option ℕ
operation_of book call = slice_get (page_of book call.caller).operations call.number

-- the record that answers a call: record k of a caller answers its call k
abbrev pub record_of : List Page → Call → Option Record
record_of book call = slice_get (page_of book call.caller).records call.number

-- the call is one of the book's
abbrev pub IsCall : List Page → Call → Type 0
IsCall book call = call.number < calls_of book call.caller

-- the call is answered
abbrev pub IsAnswered : List Page → Call → Type 0
IsAnswered book call = call.number < answers_of book call.caller

-- for each caller the number of its calls, as a cut
abbrev pub announced : List Page → List ℕ
announced book = map (λ page. length page.operations) book

-- for each caller the number of its records, as a cut
abbrev pub answered : List Page → List ℕ
answered book = map (λ page. length page.records) book

-- A book is valid where its records fit its calls, and its views fit one another as the views of
-- snapshots do (Castañeda and Rodríguez 2023).
pub record IsValid (book : List Page) : Type 0 where
  -- a caller has at most as many records as calls
  pub answers : (i : ℕ) → answers_of book i ≤ calls_of book i
  -- each view has one count per caller
  pub wide : (call : Call) (r : Record) → record_of book call ≡ Some r → length r.view ≡ length book
  -- each view lies within the announced counts
  pub within : (call : Call) (r : Record) → record_of book call ≡ Some r
      → IsWithin r.view (announced book)
  -- the view of a caller's record k counts k + 1 of the caller's own calls
  pub own : (call : Call) (r : Record) → record_of book call ≡ Some r
      → slice_index r.view call.caller ≡ call.number + 1
  -- of any two views one is within the other
  pub comparable : (a b : Call) (r s : Record) → record_of book a ≡ Some r
      → record_of book b ≡ Some s → AreComparable r.view s.view

-- A book has at least one caller, and no more callers and calls than a book may have.
pub record IsSmall (book : List Page) : Type 0 where
  pub some : 1 ≤ length book
  pub callers : length book ≤ MAX_CALLERS
  pub calls : (i : ℕ) → calls_of book i ≤ MAX_CALLS

-- Call a precedes call b where a is answered and its view doesn't hold b, or where a is an earlier
-- call of the same caller (Castañeda and Rodríguez 2023).
abbrev pub Precedes : List Page → Call → Call → Type 0
Precedes book a b = IsSomeAnd (record_of book a) (λ r. slice_index r.view b.caller ≤ b.number)
    ⊎ ((a.caller ≡ b.caller) × (a.number < b.number))

-- the book in which a caller has one more call, with this operation word, as its last one
abbrev pub with_call : List Page → ℕ → ℕ → List Page
with_call book i op = slice_set book i
    (record (page_of book i) { operations = (page_of book i).operations ++ op ∷ [] })

-- the book in which a caller has one more record, which answers its first unanswered call
abbrev pub with_answer : List Page → ℕ → Record → List Page
with_answer book i r =
    slice_set book i (record (page_of book i) { records = (page_of book i).records ++ r ∷ [] })

-- the page of a caller that made this many calls: none is answered, and each has the operation word
-- 0
abbrev pub unanswered_page : ℕ → Page
unanswered_page calls = record { operations = replicate calls 0; records = [] }

-- the book in which each caller made this many calls, none answered, each with the operation word 0
abbrev pub unanswered_book : List ℕ → List Page
unanswered_book calls = map unanswered_page calls

-- the book in which a call has this operation word in place of its own
abbrev pub with_operation : List Page → Call → ℕ → List Page
with_operation book call op =
    slice_set book call.caller (record (page_of book call.caller)
    { operations = slice_set (page_of book call.caller).operations call.number op })

-- a caller's first unanswered call, where it has one
abbrev pub first_unanswered : List Page → ℕ → Call
first_unanswered book i = record { caller = i; number = answers_of book i }

-- An answer is recorded at its caller's first unanswered call, and no other record changes.
pub record AnswersAreRecorded : Type 0 where
  pub new : (book : List Page) (i : ℕ) (r : Record) → i < length book
      → record_of (with_answer book i r) (first_unanswered book i) ≡ Some r
  pub old : (book : List Page) (i : ℕ) (r : Record) (call : Call) (s : Record) → i < length book
      → record_of book call ≡ Some s
      → record_of (with_answer book i r) call ≡ Some s
  pub only : (book : List Page) (i : ℕ) (r : Record) (call : Call) (s : Record) → i < length book
      → record_of (with_answer book i r) call ≡ Some s
      → (record_of book call ≡ Some s) ⊎ ((call ≡ first_unanswered book i) × (s ≡ r))
