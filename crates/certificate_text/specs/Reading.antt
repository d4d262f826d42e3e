-- The parts of a certificate's text as they are read one after the other.
use Rattle.std.specs.Prelude.{◌≡◌, ℕ, ◌<◌, ◌^◌, List, [], ◌∷◌, Option, Some, None}
use Rattle.book_base.specs.declared.call.Place.{Place}
use Rattle.book_base.specs.declared.fault.TextFault.{TextFault}
use Rattle.book_base.specs.declared.fault.ReadFault.{ReadFault}
use Rattle.book_base.specs.Book.{Page}
use Rattle.seq_objects.specs.declared.kind.Kind.{Kind}
use Rattle.seq_objects.specs.Replies.{reply_word}
use Rattle.text_fields.specs.Lines.{Unread}
use Rattle.text_fields.specs.declared.version.Version.TheVariants.{Second}
use Rattle.text_fields.specs.Faults.{Wanted, ALine, Nothing, Rules, GoesTo, IsFirstFault, StopsFor}
use Rattle.text_fields.specs.Head.{TitleDue}
use Rattle.book_text.specs.Grammar.{end_words}
use Rattle.book_text.specs.BookRules.{BookDue, InHead, InCalls, AtEnd, BookPasses, BookFails}
use Rattle.certificate_text.specs.CertificateRules.{CertificateDue, OrderDue, InPlaces, AllRead, IsPlaceLine, certificate_rules}

-- the text begins with right lines of a certificate that lead from one state to another, and `left`
-- is the rest of it
abbrev pub Goes : CertificateDue → Unread → CertificateDue → Unread → Type 0
Goes due text after left = GoesTo certificate_rules due text after left

-- a reader that reads a text from the state `due` on, as a certificate, stops for want of memory,
-- or with the text's first fault
abbrev pub Stops : CertificateDue → Unread → ReadFault → Type 0
Stops due text fault = StopsFor certificate_rules due text fault

-- ---- the book

-- what is due next where other rules read on after a book's end
abbrev pub part_wanted : BookDue → Wanted
part_wanted (InHead due) = ALine
part_wanted (InCalls kind book calls) = ALine
part_wanted (AtEnd kind book) = Nothing

-- the rules of the lines of a book that other lines follow
abbrev pub book_part : Rules BookDue
book_part =
    record { Passes = BookPasses Second; Fails = BookFails Second; wanted = part_wanted }

-- the text begins with the lines of this book, up to its end
abbrev pub IsBookRead : Unread → Kind → List Page → Unread → Type 0
IsBookRead text kind book left = GoesTo book_part (InHead TitleDue) text (AtEnd kind book) left

-- a reader of the lines of a book stops for want of memory, or with the first fault of these lines
abbrev pub IsNoBook : Unread → ReadFault → Type 0
IsNoBook text fault = StopsFor book_part (InHead TitleDue) text fault

-- the text begins with the line 'end' of a book, which comes after the lines of its calls
abbrev pub IsBookEnd : Unread → Unread → Type 0
IsBookEnd text left = (kind : Kind) (book : List Page)
    → GoesTo book_part (InCalls kind book []) text (AtEnd kind book) left

-- the first fault of a text where, after the lines of a book's calls, the line 'end' is due
abbrev pub IsNoBookEnd : Unread → TextFault → Type 0
IsNoBookEnd text fault = (kind : Kind) (book : List Page)
    → IsFirstFault book_part (InCalls kind book []) text fault

-- ---- the order

-- the text begins with the title of the order
abbrev pub IsTitle : Unread → Unread → Type 0
IsTitle text left = (kind : Kind) (book : List Page)
    → Goes (OrderDue kind book) text (InPlaces kind book []) left

-- the first fault of a text where the title of the order is due
abbrev pub IsNoTitle : Unread → TextFault → Type 0
IsNoTitle text fault = (kind : Kind) (book : List Page)
    → IsFirstFault certificate_rules (OrderDue kind book) text fault

-- the words after a caller and a number are exactly this reply
abbrev pub IsOneReply : List (List ℕ) → ℕ → Type 0
IsOneReply words reply = (reply < 2 ^ 64) × (words ≡ reply_word reply ∷ [])

-- what a line after the title of the order says: a place, or that there are no more
abbrev pub SaysPlace : List (List ℕ) → Option Place → Type 0
SaysPlace words None = words ≡ end_words
SaysPlace words (Some place) = IsPlaceLine words place

-- the text begins with the lines of these places and the end
abbrev pub ArePlaces : Unread → List Place → Unread → Type 0
ArePlaces text order left = (kind : Kind) (book : List Page)
    → Goes (InPlaces kind book []) text (AllRead kind book order) left

-- a reader of the lines of places stops with this fault
abbrev pub AreNoPlaces : Unread → ReadFault → Type 0
AreNoPlaces text fault = (kind : Kind) (book : List Page) → Stops (InPlaces kind book []) text fault

-- the fault is that bytes follow the end
abbrev pub IsRest : Unread → TextFault → Type 0
IsRest text fault = (kind : Kind) (book : List Page) (order : List Place)
    → IsFirstFault certificate_rules (AllRead kind book order) text fault
