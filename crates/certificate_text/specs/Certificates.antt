-- Whether bytes are the text of a certificate, which is a book with a list of calls and their
-- replies, and whether this list is a legal order of the book.
use Rattle.std.specs.Prelude.{ℕ, List}
use Rattle.book_base.specs.declared.call.Place.{Place}
use Rattle.book_base.specs.Book.{Page}
use Rattle.book_base.specs.Order.{IsLegalOrder}
use Rattle.certificate_text.specs.CertificateRules.{IsCertificateText}
use Rattle.order_check.specs.declared.fault.OrderFault.{OrderFault}
use Rattle.order_check.specs.Fault.{IsFirstFault}
use Rattle.seq_objects.specs.declared.kind.Kind.{Kind}
use Rattle.seq_objects.specs.Objects.{kind_spec}
use Rattle.certificate_text.specs.declared.order_verdict.OrderVerdict.{OrderVerdict}
use Rattle.certificate_text.specs.declared.order_verdict.OrderVerdict.TheVariants.{Legal, Faulty}

-- the bytes are the text of a certificate
unfoldable pub IsTextOfCertificate : List ℕ → Type 0
IsTextOfCertificate bytes = (kind : Kind) × (book : List Page) × (order : List Place)
    × IsCertificateText bytes kind book order

-- the bytes are the text of a certificate whose list of places is a legal order of its book
unfoldable pub IsLegalCertificate : List ℕ → Type 0
IsLegalCertificate bytes = (kind : Kind) × (book : List Page) × (order : List Place)
    × IsCertificateText bytes kind book order
    × IsLegalOrder (kind_spec kind) book order

-- the bytes are the text of a certificate whose list of places is no legal order of its book, and
-- this is its first fault
unfoldable pub IsFaultyCertificate : List ℕ → OrderFault → Type 0
IsFaultyCertificate bytes fault = (kind : Kind) × (book : List Page) × (order : List Place)
    × IsCertificateText bytes kind book order
    × ¬ (IsLegalOrder (kind_spec kind) book order)
    × IsFirstFault (kind_spec kind) book order fault

-- the bytes are the text of a certificate whose list of places is no legal order of its book
abbrev pub IsIllegalCertificate : List ℕ → Type 0
IsIllegalCertificate bytes = (fault : OrderFault) × IsFaultyCertificate bytes fault

-- the verdict on the certificate that the bytes are the text of
abbrev pub IsOrderVerdict : List ℕ → OrderVerdict → Type 0
IsOrderVerdict bytes Legal = IsLegalCertificate bytes
IsOrderVerdict bytes (Faulty fault) = IsFaultyCertificate bytes fault
