-- Whether bytes are the text of a book, and whether this book has a legal order.
use Rattle.std.specs.Prelude.{ℕ, List}
use Rattle.book_base.specs.declared.call.Place.{Place}
use Rattle.book_base.specs.Book.{Page}
use Rattle.book_base.specs.Order.{IsLegalOrder, HasLegalOrder}
use Rattle.book_text.specs.BookRules.{IsBookText}
use Rattle.certificate_text.specs.CertificateRules.{IsCertificateText}
use Rattle.seq_objects.specs.declared.kind.Kind.{Kind}
use Rattle.seq_objects.specs.Objects.{kind_spec}
use Rattle.text_fields.specs.declared.version.Version.TheVariants.{Second}
use Rattle.certificate_text.specs.declared.book_verdict.BookVerdict.{BookVerdict}
use Rattle.certificate_text.specs.declared.book_verdict.BookVerdict.TheVariants.{Legal, Illegal}

-- the bytes are the text of this book, whose calls are of an object of this kind
abbrev pub Tells : List ℕ → Kind → List Page → Type 0
Tells bytes kind book = IsBookText Second bytes kind book

-- the bytes are the text of a book
unfoldable pub IsTextOfBook : List ℕ → Type 0
IsTextOfBook bytes = (kind : Kind) × (book : List Page) × Tells bytes kind book

-- the bytes are the text of a book that has a legal order
unfoldable pub IsLegalBook : List ℕ → Type 0
IsLegalBook bytes = (kind : Kind) × (book : List Page) × Tells bytes kind book
    × HasLegalOrder (kind_spec kind) book

-- the bytes are the text of a book that has no legal order
unfoldable pub IsIllegalBook : List ℕ → Type 0
IsIllegalBook bytes = (kind : Kind) × (book : List Page) × Tells bytes kind book
    × ¬ (HasLegalOrder (kind_spec kind) book)

-- the verdict on the book that the bytes are the text of
abbrev pub IsBookVerdict : List ℕ → BookVerdict → Type 0
IsBookVerdict bytes Legal = IsLegalBook bytes
IsBookVerdict bytes Illegal = IsIllegalBook bytes

-- `bytes` is the text of a book, and `text` is that of a certificate with this book and a legal
-- order of it
unfoldable pub Certifies : List ℕ → List ℕ → Type 0
Certifies bytes text = (kind : Kind) × (book : List Page) × (order : List Place)
    × Tells bytes kind book
    × IsCertificateText text kind book order
    × IsLegalOrder (kind_spec kind) book order
