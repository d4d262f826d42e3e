-- The place of the first fault of bytes that are to be a certificate's text: the first line such
-- that no text of a certificate begins with the lines up to it, or that no line feed ends, or that
-- follows a whole text.
use Rattle.std.specs.Prelude.{◌≡◌, ◌≢◌, ◌⊎◌, ◌+◌, ℕ, List, [], ◌∷◌, ◌++◌, Some}
use Rattle.book_base.specs.declared.call.Place.{Place}
use Rattle.book_base.specs.declared.fault.TextFault.{TextFault}
use Rattle.book_base.specs.declared.fault.What.{What}
use Rattle.book_base.specs.declared.fault.What.TheVariants.{Cut, Rest}
use Rattle.book_base.specs.Book.{Page}
use Rattle.seq_objects.specs.declared.kind.Kind.{Kind}
use Rattle.text_fields.specs.Lines.{cut_at}
use Rattle.book_text.specs.Beginnings.{AreWholeLines, EndsEarly}
use Rattle.certificate_text.specs.CertificateRules.{IsCertificateText, IsNoCertificateText}

-- some text of a certificate begins with these bytes
abbrev pub BeginsSomeText : List ℕ → Type 0
BeginsSomeText prefix = (kind : Kind) × (book : List Page) × (order : List Place) × (more : List ℕ)
    × IsCertificateText (prefix ++ more) kind book order

-- no text of a certificate begins with these bytes
abbrev pub BeginsNoText : List ℕ → Type 0
BeginsNoText prefix = (kind : Kind) (book : List Page) (order : List Place) (more : List ℕ)
    → ¬ (IsCertificateText (prefix ++ more) kind book order)

-- After `prefix` comes one more whole line, and no text of a certificate begins with `prefix` and
-- this line; the fault is neither `Cut` nor `Rest`.
pub record BreaksText (prefix rest : List ℕ) (what : What) : Type 0 where
  pub named : (what ≢ Cut) × (what ≢ Rest)
  pub line : List ℕ
  pub suffix : List ℕ
  pub whole : cut_at 10 rest ≡ Some (line, suffix)
  pub none : BeginsNoText (prefix ++ (line ++ 10 ∷ []))

-- `prefix` is a whole text of a certificate already, and bytes follow it; the fault is `Rest`.
pub record GoesOn (prefix rest : List ℕ) (what : What) : Type 0 where
  pub named : what ≡ Rest
  pub kind : Kind
  pub book : List Page
  pub order : List Place
  pub text : IsCertificateText prefix kind book order
  pub more : rest ≢ []

-- A fault is at the line where bytes, which are no certificate's text themselves, stop being the
-- beginning of one. Some text of a certificate begins with the lines before the fault's line; and
-- either none begins with these lines and the fault's line, or no line feed ends the fault's line,
-- or the lines before it are a whole text already, and bytes follow them.
pub record LeavesTexts (bytes : List ℕ) (fault : TextFault) : Type 0 where
  pub count : ℕ
  pub prefix : List ℕ
  pub rest : List ℕ
  pub line : fault.line ≡ count + 1
  pub bytes_are : bytes ≡ prefix ++ rest
  pub lines : AreWholeLines count prefix
  pub begins : BeginsSomeText prefix
  pub leaves : BreaksText prefix rest fault.what
      ⊎ (EndsEarly rest fault.what ⊎ GoesOn prefix rest fault.what)
  pub no_text : IsNoCertificateText bytes
