-- The book that an input gives: its text in either version, or the witness after a report or after
-- a verdict.
use Rattle.std.specs.Prelude.{◌≡◌, ◌⊎◌, ℕ, ◌<◌, List, [], ◌++◌, drop, codes}
use Rattle.book_base.specs.declared.fault.TextFault.{TextFault}
use Rattle.book_base.specs.declared.fault.ReadFault.{ReadFault}
use Rattle.book_base.specs.declared.fault.ReadFault.TheVariants.{Text, NoMemory}
use Rattle.book_base.specs.Book.{Page}
use Rattle.book_text.specs.BookRules.{IsBookText, IsFirstBookFault}
use Rattle.seq_objects.specs.declared.kind.Kind.{Kind}
use Rattle.text_fields.specs.declared.version.Version.{Version}
use Rattle.text_fields.specs.declared.version.Version.TheVariants.{First, Second}

-- The first line is the title of a report.
abbrev pub BeginsAsReport : List ℕ → Type 0
BeginsAsReport bytes = (rest : List ℕ) × (bytes ≡ codes "report 2\n" ++ rest)

-- The first line is the title of a book of version 1.
abbrev pub BeginsAsOldBook : List ℕ → Type 0
BeginsAsOldBook bytes = (rest : List ℕ) × (bytes ≡ codes "book 1\n" ++ rest)

-- The first line is a verdict, as `monitor` writes it, and `rest` is what comes after it.
abbrev pub IsAfterVerdict : List ℕ → List ℕ → Type 0
IsAfterVerdict bytes rest = (bytes ≡ codes "legal\n" ++ rest) ⊎ (bytes ≡ codes "illegal\n" ++ rest)

-- The first line is a verdict.
abbrev pub BeginsAsVerdict : List ℕ → Type 0
BeginsAsVerdict bytes = (rest : List ℕ) × IsAfterVerdict bytes rest

-- At this place the bytes have a line feed, then the line `end`, and then `rest`.
abbrev pub HasEndAt : List ℕ → ℕ → List ℕ → Type 0
HasEndAt bytes at rest = drop at bytes ≡ codes "\nend\n" ++ rest

-- `rest` is what comes after the first line `end` that isn't the first line of all.
pub record IsAfterEnd (bytes rest : List ℕ) : Type 0 where
  pub at : ℕ
  pub has : HasEndAt bytes at rest
  pub first : (i : ℕ) (other : List ℕ) → i < at → ¬ (HasEndAt bytes i other)

-- No line but perhaps the first line of all is `end`.
abbrev pub HasNoEnd : List ℕ → Type 0
HasNoEnd bytes = (i : ℕ) (rest : List ℕ) → ¬ (HasEndAt bytes i rest)

-- The part is what comes after the report that the bytes begin with: no bytes where the report has
-- no line `end`.
abbrev pub IsWitnessPart : List ℕ → List ℕ → Type 0
IsWitnessPart bytes part = IsAfterEnd bytes part ⊎ (HasNoEnd bytes × (part ≡ []))

-- The first line is neither the title of a report, nor a verdict, nor the title of a book of
-- version 1.
pub record BeginsOtherwise (bytes : List ℕ) : Type 0 where
  pub report : ¬ (BeginsAsReport bytes)
  pub verdict : ¬ (BeginsAsVerdict bytes)
  pub old : ¬ (BeginsAsOldBook bytes)

-- This part of the bytes is read as a book's text in this version: after a report or a verdict what
-- comes after it, in version 2; all bytes in version 1, where they begin with the title of a book
-- of version 1; and otherwise all bytes in version 2.
abbrev pub IsBookPart : List ℕ → Version → List ℕ → Type 0
IsBookPart bytes version part =
    (BeginsAsReport bytes × (version ≡ Second) × IsWitnessPart bytes part)
    ⊎ ((IsAfterVerdict bytes part × (version ≡ Second))
    ⊎ ((BeginsAsOldBook bytes × (version ≡ First) × (part ≡ bytes))
    ⊎ (BeginsOtherwise bytes × (version ≡ Second) × (part ≡ bytes))))

-- The input gives this book, of an object of this kind: the part of it that is read as a book's
-- text is the text of this book.
pub record IsGiven (bytes : List ℕ) (kind : Kind) (book : List Page) : Type 0 where
  pub version : Version
  pub part : List ℕ
  pub is : IsBookPart bytes version part
  pub told : IsBookText version part kind book

-- The input's first fault: the first fault of its part that is read as a book's text, with the line
-- counted from the title of the book.
pub record IsFirstGivenFault (bytes : List ℕ) (fault : TextFault) : Type 0 where
  pub version : Version
  pub part : List ℕ
  pub is : IsBookPart bytes version part
  pub stops : IsFirstBookFault version part fault

-- Why no book is read of an input: its first fault, or want of memory.
abbrev pub IsNotGiven : List ℕ → ReadFault → Type 0
IsNotGiven bytes (Text fault) = IsFirstGivenFault bytes fault
IsNotGiven bytes NoMemory = Unit {0}
