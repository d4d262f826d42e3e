-- What a program in another language is told of a text that is refused.
use Rattle.std.specs.Prelude.{◌≡◌, ℕ, List}
use Rattle.book_base.specs.declared.fault.TextFault.{TextFault}
use Rattle.book_text.specs.BookRules.{IsFirstBookFault}
use Rattle.certificate_text.specs.CertificateRules.{IsFirstCertificateFault}
use Rattle.given_book.specs.Given.{IsFirstGivenFault}
use Rattle.text_fields.specs.declared.version.Version.TheVariants.{Second}
use Rattle.selfcheck_c.specs.declared.refusal.Refusal.{Refusal}
use Rattle.history_text.specs.declared.fault.LogFault.{LogFault}
use Rattle.selfcheck_c.specs.FaultNumber.{fault_number, log_fault_number}

-- A refusal tells a fault of a text: the fault's line, and the number of what is wrong in it.
abbrev pub TellsFault : TextFault → Refusal → Type 0
TellsFault fault refusal = (refusal.line ≡ fault.line) × (refusal.what ≡ fault_number fault.what)

-- A refusal tells the first fault of some bytes, which is a fault for which `IsFirst` holds.
abbrev pub IsRefusalOf : (TextFault → Type 0) → Refusal → Type 0
IsRefusalOf IsFirst refusal = (fault : TextFault) × IsFirst fault × TellsFault fault refusal

-- The bytes are no book's text, and the refusal tells their first fault.
abbrev pub IsBookRefusal : List ℕ → Refusal → Type 0
IsBookRefusal bytes refusal = IsRefusalOf (IsFirstBookFault Second bytes) refusal

-- The bytes are no certificate's text, and the refusal tells their first fault.
abbrev pub IsCertificateRefusal : List ℕ → Refusal → Type 0
IsCertificateRefusal bytes refusal = IsRefusalOf (IsFirstCertificateFault bytes) refusal

-- The bytes give no book, and the refusal tells their first fault, with its line counted from the
-- title of the book.
abbrev pub IsGivenRefusal : List ℕ → Refusal → Type 0
IsGivenRefusal bytes refusal = IsRefusalOf (IsFirstGivenFault bytes) refusal

-- A refusal tells a fault of a log: the fault's line, and the number of what is wrong in it.
abbrev pub TellsLogFault : LogFault → Refusal → Type 0
TellsLogFault fault refusal = (refusal.line ≡ fault.line)
    × (refusal.what ≡ log_fault_number fault.what)

-- A refusal tells a fault of a log.
abbrev pub IsLogRefusal : Refusal → Type 0
IsLogRefusal refusal = (fault : LogFault) × TellsLogFault fault refusal
