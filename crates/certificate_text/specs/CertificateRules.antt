-- The lines of a certificate's text, one after the other: which are right, and which test the
-- others fail.
use Rattle.std.specs.Prelude.{◌≡◌, ◌≢◌, ℕ, ◌<◌, ◌^◌, ◌⊎◌, List, [], ◌∷◌, ◌++◌}
use Rattle.book_base.specs.declared.call.Call.{Call}
use Rattle.book_base.specs.declared.call.Place.{Place}
use Rattle.book_base.specs.declared.fault.TextFault.{TextFault}
use Rattle.book_base.specs.declared.fault.What.{What}
use Rattle.book_base.specs.declared.fault.What.TheVariants as what
use Rattle.book_base.specs.Book.{Page}
use Rattle.seq_objects.specs.declared.kind.Kind.{Kind}
use Rattle.seq_objects.specs.Replies.{reply_word}
use Rattle.text_fields.specs.declared.version.Version.TheVariants.{Second}
use Rattle.text_fields.specs.Lines.{Unread}
use Rattle.text_fields.specs.Faults.{Wanted, ALine, TheEnd, Rules, IsFirstFault, IsReadTo}
use Rattle.text_fields.specs.Head.{TitleDue}
use Rattle.book_text.specs.CallLines.{place_words}
use Rattle.book_text.specs.Grammar.{end_words}
use Rattle.book_text.specs.BookRules.{BookDue, InHead, InCalls, AtEnd, BookPasses, BookFails, whole_text}
use Rattle.certificate_text.specs.Grammar.{order_words, place_line, IsNamed, IsPlace}

-- the states of reading a certificate's text, each with what the lines before say
pub data CertificateDue : Type 0 where
  InBook : BookDue → CertificateDue
  OrderDue : Kind → List Page → CertificateDue
  InPlaces : Kind → List Page → List Place → CertificateDue
  AllRead : Kind → List Page → List Place → CertificateDue

-- a state of reading the book as a state of reading the certificate: after the end of the book the
-- title of the order is due
abbrev pub after_book : BookDue → CertificateDue
after_book (InHead due) = InBook (InHead due)
after_book (InCalls kind book calls) = InBook (InCalls kind book calls)
after_book (AtEnd kind book) = OrderDue kind book

-- ---- the lines of places

-- the words are the line of this place
pub record IsPlaceLine (words : List (List ℕ)) (place : Place) : Type 0 where
  pub may : IsPlace place
  pub text : words ≡ place_line place

-- a line of these words, where a place or the end is due, fails a test
abbrev pub PlaceFails : List (List ℕ) → What → Type 0
-- the line isn't the end, and doesn't begin with a caller and a number
PlaceFails words what.Place = (words ≢ end_words)
    × ((call : Call) (suffix : List (List ℕ)) → IsNamed call → words ≢ place_words call ++ suffix)
-- the words after a caller and a number aren't exactly one reply
PlaceFails words what.Reply = (call : Call) × (suffix : List (List ℕ)) × IsNamed call
    × (words ≡ place_words call ++ suffix)
    × ((reply : ℕ) → reply < 2 ^ 64 → suffix ≢ reply_word reply ∷ [])
PlaceFails words _ = ⊥

-- ---- the rules

-- a line of these words is right in a state of reading a certificate's text, and leads to another
-- state
abbrev pub CertificatePasses : CertificateDue → List (List ℕ) → CertificateDue → Type 0
CertificatePasses (InBook due) words after = (next : BookDue) × BookPasses Second due words next
    × (after ≡ after_book next)
CertificatePasses (OrderDue kind book) words after = (words ≡ order_words)
    × (after ≡ InPlaces kind book [])
CertificatePasses (InPlaces kind book order) words after =
    ((words ≡ end_words) × (after ≡ AllRead kind book order))
    ⊎ ((place : Place) × IsPlaceLine words place
    × (after ≡ InPlaces kind book (order ++ place ∷ [])))
CertificatePasses (AllRead kind book order) words after = ⊥

-- A line of these words fails a test in a state of reading a certificate's text: one of a book's
-- lines up to the book's end, then that of the title of the order, and then one of places.
abbrev pub CertificateFails : CertificateDue → List (List ℕ) → What → Type 0
CertificateFails (InBook due) words name = BookFails Second due words name
CertificateFails (OrderDue kind book) words name = (name ≡ what.Head) × (words ≢ order_words)
CertificateFails (InPlaces kind book order) words name = PlaceFails words name
CertificateFails (AllRead kind book order) words name = ⊥

-- what is due next in each state of reading a certificate's text
abbrev pub certificate_wanted : CertificateDue → Wanted
certificate_wanted (InBook due) = ALine
certificate_wanted (OrderDue kind book) = ALine
certificate_wanted (InPlaces kind book order) = ALine
certificate_wanted (AllRead kind book order) = TheEnd

-- the rules of a certificate's text
abbrev pub certificate_rules : Rules CertificateDue
certificate_rules =
    record { Passes = CertificatePasses; Fails = CertificateFails; wanted = certificate_wanted }

-- the state of reading a certificate's text before its first line
abbrev pub nothing_read : CertificateDue
nothing_read = InBook (InHead TitleDue)

-- The first fault of bytes that are to be a certificate's text.
abbrev pub IsFirstCertificateFault : List ℕ → TextFault → Type 0
IsFirstCertificateFault bytes fault =
    IsFirstFault certificate_rules nothing_read (whole_text bytes) fault

-- The bytes are the text of this certificate: right lines from the title to the end of the bytes.
abbrev pub IsCertificateText : List ℕ → Kind → List Page → List Place → Type 0
IsCertificateText bytes kind book order = (left : Unread)
    × IsReadTo certificate_rules nothing_read (whole_text bytes) (AllRead kind book order) left

-- The bytes are the text of no certificate.
abbrev pub IsNoCertificateText : List ℕ → Type 0
IsNoCertificateText bytes = (kind : Kind) (book : List Page) (order : List Place)
    → ¬ (IsCertificateText bytes kind book order)
