-- Which places of a kept order still follow one another in a book that has grown since.
use Rattle.std.specs.Prelude.{◌≡◌, ℕ, ◌<◌, ◌≤◌, ◌⊎◌, ◌++◌, List, [], ◌∷◌, Some, length, slice_index}
use Rattle.book_base.specs.declared.call.Call.{Call}
use Rattle.book_base.specs.declared.call.Place.{Place}
use Rattle.book_base.specs.declared.call.Record.{Record}
use Rattle.book_base.specs.SeqSpec.{SeqSpec}
use Rattle.book_base.specs.Book.{Page, answers_of, answered, operation_of, record_of}
use Rattle.frontier_check.specs.declared.prefix.Prefix.{Prefix}
use Rattle.frontier_check.specs.declared.kept_order.OrderMark.{OrderMark}
use Rattle.frontier_check.specs.declared.kept_order.KeptOrder.{KeptOrder}
use Rattle.frontier_check.specs.Prefix.{LeavesOpen, IsPut}

-- A new book has grown from an old one: they have equally many callers, and each operation and each
-- record of a call in the old book is that of the call in the new book.
pub record HasGrown (old new : List Page) : Type 0 where
  pub callers : length new ≡ length old
  pub operations : (call : Call) (op : ℕ) → operation_of old call ≡ Some op
      → operation_of new call ≡ Some op
  pub records : (call : Call) (r : Record) → record_of old call ≡ Some r
      → record_of new call ≡ Some r

-- No call of a cut was answered since the callers of a book had the numbers `before` of records:
-- for each caller, the cut counts no more calls than this number, or the book has no more records
-- of the caller than this number.
abbrev pub IsQuiet : List ℕ → List ℕ → List Page → Type 0
IsQuiet cut before book = (i : ℕ) → i < length book → (slice_index cut i ≤ slice_index before i)
    ⊎ (answers_of book i ≤ slice_index before i)

-- A mark is one of an order of a book: the order begins with the places of a prefix that is put in
-- this book or in an earlier one, from which this book has grown. The mark has the number of these
-- places, the cut and the words of the prefix, and how many records of each caller the earlier book
-- had.
pub record IsMark (spec : SeqSpec) (book : List Page) (order : List Place)
    (mark : OrderMark) : Type 0 where
  pub earlier : List Page
  pub grown : HasGrown earlier book
  pub records : mark.answered ≡ answered earlier
  pub prefix : Prefix
  pub rest : List Place
  pub begins : order ≡ prefix.places.items ++ rest
  pub len : mark.len ≡ length prefix.places.items
  pub cut : prefix.cut ≡ mark.cut
  pub words : prefix.here.words ≡ mark.words.items
  pub put : IsPut spec earlier prefix

-- Each of some marks is a mark of an order, and the marks are in the order of their places: at
-- least `least` places are before the first mark, and before each other mark at least as many as
-- before the one that precedes it.
abbrev pub AreMarks : SeqSpec → List Page → List Place → ℕ → List OrderMark → Type 0
AreMarks spec book order least [] = Unit {0}
AreMarks spec book order least (mark ∷ marks) =
    (least ≤ mark.len) × IsMark spec book order mark
    × AreMarks spec book order mark.len marks

-- A kept order stands in a book: its marks are marks of its places, in this book or in earlier ones
-- from which this book has grown.
abbrev pub IsStandingFor : SeqSpec → List Page → KeptOrder → Type 0
IsStandingFor spec book standing =
    AreMarks spec book standing.order.items 0 standing.marks.items

-- The cut of a mark and its numbers of records have one count for each caller of a book.
abbrev pub IsAsWide : List Page → OrderMark → Type 0
IsAsWide book mark = (length mark.cut ≡ length book) × (length mark.answered ≡ length book)

-- No call of the cut of a mark was answered in a book since the mark was left, and where the next
-- call of a caller after that cut is answered, its view holds the cut. Then the places before the
-- mark may still begin an order of the book.
abbrev pub StillStands : List Page → OrderMark → Type 0
StillStands book mark = IsQuiet mark.cut mark.answered book × LeavesOpen book mark.cut

-- A mark is at the end of a prefix: it has the number of the prefix's places, the prefix's cut and
-- words, and the numbers `records` of records.
pub record IsMarkAtEnd (prefix : Prefix) (records : List ℕ) (mark : OrderMark) : Type 0 where
  pub len : mark.len ≡ length prefix.places.items
  pub cut : mark.cut ≡ prefix.cut
  pub words : mark.words.items ≡ prefix.here.words
  pub answered : mark.answered ≡ records

-- Where `marks` are marks of the places of a prefix, `more` are marks of these places too. This
-- holds for each object, and in each book in which the prefix is put and which has of each caller
-- as many records as `records` counts.
abbrev pub AddsMarks : Prefix → List ℕ → List OrderMark → List OrderMark → Type 0
AddsMarks prefix records marks more =
    (spec : SeqSpec) (book : List Page)
    → IsPut spec book prefix → records ≡ answered book
    → AreMarks spec book prefix.places.items 0 marks
    → AreMarks spec book prefix.places.items 0 more
