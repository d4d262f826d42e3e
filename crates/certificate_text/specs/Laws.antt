-- Laws of the texts of certificates.
use Rattle.std.specs.Prelude.{◌≡◌, ◌↔◌, ℕ, List, [], ◌++◌}
use Rattle.book_base.specs.declared.call.Place.{Place}
use Rattle.book_base.specs.declared.fault.TextFault.{TextFault}
use Rattle.book_base.specs.Book.{Page}
use Rattle.seq_objects.specs.declared.kind.Kind.{Kind}
use Rattle.certificate_text.specs.Grammar.{IsWrittenCertificate}
use Rattle.certificate_text.specs.CertificateRules.{IsCertificateText, IsFirstCertificateFault}
use Rattle.certificate_text.specs.Beginnings.{LeavesTexts}

-- two certificates are equal: their kinds, their books and their lists of places are
pub record AreOne (k l : Kind) (a b : List Page) (p q : List Place) : Type 0 where
  pub kinds : k ≡ l
  pub books : a ≡ b
  pub orders : p ≡ q

-- Bytes are the text of one certificate at most.
abbrev pub OneCertificatePerText : Type 0
OneCertificatePerText = (bytes : List ℕ) (k l : Kind) (a b : List Page) (p q : List Place)
    → IsCertificateText bytes k a p → IsCertificateText bytes l b q → AreOne k l a b p q

-- A certificate has one text at most.
abbrev pub OneTextPerCertificate : Type 0
OneTextPerCertificate = (a b : List ℕ) (kind : Kind) (book : List Page) (order : List Place)
    → IsCertificateText a kind book order → IsCertificateText b kind book order → a ≡ b

-- Bytes have one first fault at most.
abbrev pub OneFirstFault : Type 0
OneFirstFault = (bytes : List ℕ) (a b : TextFault) → IsFirstCertificateFault bytes a
    → IsFirstCertificateFault bytes b → a ≡ b

-- A certificate's text has no fault.
abbrev pub NoFaultOfAText : Type 0
NoFaultOfAText =
    (bytes : List ℕ) (kind : Kind) (book : List Page) (order : List Place) (fault : TextFault)
    → IsCertificateText bytes kind book order → ¬ (IsFirstCertificateFault bytes fault)

-- Bytes are read as a certificate exactly where they are what is written of it.
abbrev pub ATextIsItsLines : Type 0
ATextIsItsLines = (bytes : List ℕ) (kind : Kind) (book : List Page) (order : List Place)
    → IsWrittenCertificate bytes kind book order ↔ IsCertificateText bytes kind book order

-- No certificate's text is a proper prefix of another's: where more bytes follow it, the whole is
-- no certificate's text.
abbrev pub NoTextBeginsAnother : Type 0
NoTextBeginsAnother = (bytes more : List ℕ) (k l : Kind) (a b : List Page) (p q : List Place)
    → IsCertificateText bytes k a p → IsCertificateText (bytes ++ more) l b q → more ≡ []

-- A first fault is where bytes stop being the beginning of a certificate's text: some text begins
-- with the lines before the fault's line, and none begins with these and that line; or that line
-- isn't whole, or bytes follow a whole text.
abbrev pub FirstFaultsLeaveTexts : Type 0
FirstFaultsLeaveTexts = (bytes : List ℕ) (fault : TextFault) → IsFirstCertificateFault bytes fault
    → LeavesTexts bytes fault
