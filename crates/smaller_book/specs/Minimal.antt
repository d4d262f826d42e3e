-- Minimal books, which have a legal order once a rule makes them smaller; and smaller books that
-- still have no legal order.
use Rattle.std.specs.Prelude.{◌≡◌, ℕ, ◌+◌, ◌-◌, ◌<◌, ◌≤◌, ◌++◌, cond, nat_eq, List, length, map, slice_index, Some}
use Rattle.std.specs.List.{range_with_len}
use Rattle.book_base.specs.declared.call.Call.{Call}
use Rattle.book_base.specs.declared.call.Record.{Record}
use Rattle.book_base.specs.Cut.{Holds, IsWithin}
use Rattle.book_base.specs.Book.{Page, calls_of, answers_of, answered, IsCall, IsValid, record_of}
use Rattle.book_base.specs.BookAt.{book_at}
use Rattle.book_base.specs.Order.{HasLegalOrder}
use Rattle.book_base.specs.Pruning.{HasOneOpen}
use Rattle.seq_objects.specs.declared.kind.Kind.{Kind}
use Rattle.seq_objects.specs.Objects.{kind_next, kind_spec}
use Rattle.smaller_book.specs.declared.TheConstants.{FEW_CALLS}
use Rattle.smaller_book.specs.Part.{size_of, IsPart, KeepsAnswers}
use Rattle.smaller_book.specs.ReadOnly.{IsReadOnly}
use Rattle.smaller_book.specs.Earliest.{IsEarliest}
use Rattle.smaller_book.specs.Keys.{key_of_call, keys_from_to, all_without, KeysMayGo}
use Rattle.smaller_book.specs.Evidence.{IsEvidence}

-- The numbers below `count` other than `number`, which is one of them.
abbrev pub numbers_except : ℕ → ℕ → List ℕ
numbers_except count number =
    range_with_len 0 number ++ range_with_len (number + 1) (count - (number + 1))

-- The numbers of a caller's calls in a book, with `call` left out where it is the caller's.
abbrev pub row_but : List Page → Call → ℕ → List ℕ
row_but book call i = cond (nat_eq i call.caller) (numbers_except (calls_of book i) call.number)
    (range_with_len 0 (calls_of book i))

-- For each caller of a book the numbers of its calls, with `call` left out.
abbrev pub all_but : List Page → Call → List (List ℕ)
all_but book call = map (row_but book call) (range_with_len 0 (length book))

-- A part of the book that has exactly the calls with these numbers, answered where the book has
-- them answered, has a legal order.
abbrev pub HasOneWith : Kind → List Page → List (List ℕ) → Type 0
HasOneWith kind book names =
    (part : List Page) × IsPart book names part × KeepsAnswers book names part
    × HasLegalOrder (kind_spec kind) part

-- A call is needed: the part of the book without this call has a legal order.
abbrev pub IsNeeded : Kind → List Page → Call → Type 0
IsNeeded kind book call = HasOneWith kind book (all_but book call)

-- A key is needed: the part of the book without all calls that are about this key has a legal
-- order.
abbrev pub IsKeyNeeded : Kind → List Page → ℕ → Type 0
IsKeyNeeded kind book key = HasOneWith kind book (all_without kind (keys_from_to key key) book)

-- A book is minimal: it has a legal order once it is made smaller in one of three ways, each with
-- its conditions: back to an earlier cut, without one read-only call, or without all calls of one
-- key.
pub record IsMinimal (kind : Kind) (book : List Page) : Type 0 where
  -- the book has a legal order at each earlier cut at which it is tried, and each of its calls is
  -- in some view
  pub earliest : IsEarliest (kind_spec kind) book
  -- for each of its read-only calls, the book without this one call has a legal order
  pub read_only : (call : Call) → IsReadOnly (kind_next kind) book call → IsNeeded kind book call
  -- for each key that one of its calls is about, the book without all calls of this key has a legal
  -- order, where calls of keys may be left out of it
  pub keys : KeysMayGo kind book → (call : Call) (key : ℕ) → IsCall book call
      → key_of_call kind book call ≡ Some key → IsKeyNeeded kind book key

-- A smaller book: a part that is evidence of a book, has no legal order, and has fewer calls.
pub record IsSmaller (kind : Kind) (book : List Page) (names : List (List ℕ))
    (part : List Page) : Type 0 where
  pub evidence : IsEvidence kind book names part
  pub illegal : ¬ HasLegalOrder (kind_spec kind) part
  pub fewer : size_of part < size_of book

-- A shrunk book: a part that is evidence of a book and has no legal order. The part has a legal
-- order at each earlier cut at which it is tried, and each of its calls is in some view.
pub record IsShrunk (kind : Kind) (book : List Page) (names : List (List ℕ))
    (part : List Page) : Type 0 where
  pub evidence : IsEvidence kind book names part
  pub illegal : ¬ HasLegalOrder (kind_spec kind) part
  pub earliest : IsEarliest (kind_spec kind) part

-- A cut is a moment of a book: the view of each record that it holds counts for each caller at most
-- one call more than the cut counts records.
abbrev pub IsMoment : List Page → List ℕ → Type 0
IsMoment book cut = (call : Call) (r : Record) (i : ℕ) → Holds cut call
    → record_of book call ≡ Some r → slice_index r.view i ≤ slice_index cut i + 1

-- A cut is closed: with each record that it holds, it holds all records of the book with smaller
-- views. Of records with equal views it may hold some and lack others.
abbrev pub IsClosedCut : List Page → List ℕ → Type 0
IsClosedCut book cut = (later earlier : Call) (r s : Record) → Holds cut later
    → record_of book later ≡ Some r → record_of book earlier ≡ Some s → IsWithin s.view r.view
    → ¬ IsWithin r.view s.view → Holds cut earlier

-- In a valid book, each of whose views holds at most one unanswered call of each caller, each
-- closed cut is a moment.
abbrev pub ClosedCutsAreMoments : Type 0
ClosedCutsAreMoments = (book : List Page) (cut : List ℕ) → IsValid book → HasOneOpen book
    → IsClosedCut book cut → IsMoment book cut

-- Where a cut lies within the records of a book and lacks one of them, the book has a legal order
-- at the cut.
abbrev pub IsLegalAt : Kind → List Page → List ℕ → Type 0
IsLegalAt kind book cut = (i : ℕ) → IsWithin cut (answered book)
    → slice_index cut i < answers_of book i
    → HasLegalOrder (kind_spec kind) (book_at cut book)

-- A minimal valid book has a legal order at each moment within its records that lacks one of them.
abbrev pub MinimalAtMoments : Type 0
MinimalAtMoments = (kind : Kind) (book : List Page) (cut : List ℕ) → IsValid book
    → IsMinimal kind book → IsMoment book cut → IsLegalAt kind book cut

-- A minimal book of at most `FEW_CALLS` calls has a legal order at each cut within its records that
-- lacks one of them.
abbrev pub FewCallsAtCuts : Type 0
FewCallsAtCuts = (kind : Kind) (book : List Page) (cut : List ℕ) → size_of book ≤ FEW_CALLS
    → IsMinimal kind book → IsLegalAt kind book cut

-- A minimal book with a view that holds several unanswered calls of one caller has a legal order at
-- each cut within its records that lacks one of them.
abbrev pub SeveralOpenAtCuts : Type 0
SeveralOpenAtCuts = (kind : Kind) (book : List Page) (cut : List ℕ) → ¬ HasOneOpen book
    → IsMinimal kind book → IsLegalAt kind book cut
