-- Evidence for the verdict on the book that bytes are the text of.
use Rattle.std.specs.Prelude.{ℕ, ◌<◌, ◌≤◌, List, length, Result, Ok, Err, Vec}
use Rattle.std.specs.declared.alloc.Global.{Global}
use Rattle.book_base.specs.declared.call.Call.{Call}
use Rattle.book_base.specs.Book.{Page}
use Rattle.seq_objects.specs.declared.kind.Kind.{Kind}
use Rattle.seq_objects.specs.Objects.{kind_spec}
use Rattle.refutations.specs.Impossible.{IsImpossible}
use Rattle.certificate_text.specs.Books.{Tells, IsIllegalBook, Certifies}
use Rattle.evidence_text.specs.declared.evidence.Evidence.{Evidence}
use Rattle.evidence_text.specs.declared.evidence.Evidence.TheVariants.{Certificate, Refutation, NotFound}
use Rattle.evidence_text.specs.declared.evidence.Limit.{Limit}
use Rattle.evidence_text.specs.declared.evidence.Limit.TheVariants.{Items, Bytes}
use Rattle.evidence_text.specs.declared.evidence.Limits.{Limits}
use Rattle.evidence_text.specs.Found.{IsRefutationOf, NamesFirst}

-- the evidence that a search for a refutation gives
abbrev pub evidence_of : Result (Vec ℕ Global) Limit → Evidence
evidence_of (Ok text) = Refutation text
evidence_of (Err limit) = NotFound limit

-- `bytes` is the text of a book, and `text` is that of a right refutation of this book
unfoldable pub Refutes : List ℕ → List ℕ → Type 0
Refutes bytes text = (kind : Kind) × (book : List Page) × Tells bytes kind book
    × IsRefutationOf kind book text

-- A certificate is one of the book with a legal order. A refutation is a right one of the book,
-- within the limit of bytes. Nothing is found only where the book has no legal order; where the
-- limit of bytes was met, some right refutation of the book has a longer text.
abbrev pub IsEvidenceFor : List ℕ → Limits → Evidence → Type 0
IsEvidenceFor bytes limits (Certificate text) = Certifies bytes text.items
IsEvidenceFor bytes limits (Refutation text) =
    Refutes bytes text.items × (length text.items ≤ limits.bytes)
IsEvidenceFor bytes limits (NotFound Items) = IsIllegalBook bytes
IsEvidenceFor bytes limits (NotFound Bytes) =
    (text : List ℕ) × Refutes bytes text × (limits.bytes < length text)

-- the evidence is a certificate
abbrev pub IsCertificate : Evidence → Type 0
IsCertificate (Certificate text) = Unit {0}
IsCertificate evidence = ⊥

-- the evidence is none for a legal order
abbrev pub IsNoCertificate : Evidence → Type 0
IsNoCertificate (Certificate text) = ⊥
IsNoCertificate evidence = Unit {0}

-- the bytes are the text of a book, and a call of it has a reply that no state gives
unfoldable pub HasImpossibleReply : List ℕ → Type 0
HasImpossibleReply bytes = (kind : Kind) × (book : List Page) × (call : Call)
    × Tells bytes kind book × IsImpossible (kind_spec kind) book call

-- `bytes` is the text of a book, and `text` is that of the refutation that names the first call of
-- it with such a reply, without a step
unfoldable pub NamesReply : List ℕ → List ℕ → Type 0
NamesReply bytes text = (kind : Kind) × (book : List Page) × Tells bytes kind book
    × NamesFirst kind book text

-- That refutation is the evidence; or its text is longer than the limit of bytes, which was met.
abbrev pub IsNamedBy : List ℕ → Limits → Evidence → Type 0
IsNamedBy bytes limits (Certificate text) = ⊥
IsNamedBy bytes limits (Refutation text) =
    NamesReply bytes text.items × (length text.items ≤ limits.bytes)
IsNamedBy bytes limits (NotFound Items) = ⊥
IsNamedBy bytes limits (NotFound Bytes) =
    (text : List ℕ) × NamesReply bytes text × (limits.bytes < length text)
