-- Bytes are read as at most one book, and have at most one first fault.
use Rattle.std.proofs.Common.{◌≡◌, ℕ, ◌⊎◌, List, [], Result, Ok, Err, refl, ap, inl, inr}
use Rattle.std.specs.Prelude.{IfOk, IfErr, MatchResult}
use Rattle.book_base.specs.declared.fault.TextFault.{TextFault}
use Rattle.book_base.specs.declared.fault.What.TheVariants.{End}
use Rattle.book_base.specs.declared.fault.ReadFault.{ReadFault}
use Rattle.book_base.specs.declared.fault.ReadFault.TheVariants.{Text, NoMemory}
use Rattle.book_base.specs.Book.{Page}
use Rattle.seq_objects.specs.declared.kind.Kind.{Kind}
use Rattle.text_fields.specs.declared.version.Version.{Version}
use Rattle.text_fields.specs.Lines.{Unread}
use Rattle.text_fields.specs.Faults.{GoesTo, IsFirstFault, StopsFor}
use Rattle.text_fields.specs.Head.{TitleDue}
use Rattle.text_fields.proofs.Sharp as sharp
use Rattle.book_text.specs.BookRules.{InHead, InCalls, AtEnd, BookFails, book_rules, whole_text, IsBookText, IsNoBookText, IsFirstBookFault}
use Rattle.book_text.specs.Ending.{IsEnded, IsNoEnd}
use Rattle.book_text.proofs.Endings.{goes_end, stops_end}
use Rattle.book_text.proofs.SharpBooks.{book_sharp}

-- ---- the end

pub book_ends : (version : Version) (kind : Kind) (book : List Page) (text left : Unread)
    → IsEnded text left
    → GoesTo (book_rules version) (InCalls kind book []) text (AtEnd kind book) left
book_ends version kind book text left h =
    goes_end (book_rules version) (InCalls kind book []) (AtEnd kind book) (refl, refl) text left h

pub book_no_end : (version : Version) (kind : Kind) (book : List Page) (text : Unread)
    (fault : TextFault) → IsNoEnd text fault
    → IsFirstFault (book_rules version) (InCalls kind book []) text fault
book_no_end version kind book text fault h =
    stops_end (book_rules version) (InCalls kind book []) (AtEnd kind book)
    (refl, refl) text fault refl refl (λ words unlike. sharp.only_test
    (BookFails version (InCalls kind book []) words) End (refl, unlike) (λ other k. k.0)) h

-- ---- one reading, or one fault

same_end : (k l : Kind) (a b : List Page) → AtEnd k a ≡ AtEnd l b → (k ≡ l) × (a ≡ b)
same_end k l a b e = (cc, cc)

-- bytes are read as at most one book
pub one_book : (version : Version) (bytes : List ℕ) (k l : Kind) (a b : List Page)
    → IsBookText version bytes k a → IsBookText version bytes l b → (k ≡ l) × (a ≡ b)
one_book version bytes k l a b h j =
    same_end k l a b (sharp.one_reading (book_rules version) (book_sharp version) (InHead TitleDue)
    (AtEnd k a) (AtEnd l b) (whole_text bytes) h.0 j.0 h.1 j.1).0

-- bytes have at most one first fault
pub one_first_fault : (version : Version) (bytes : List ℕ) (a b : TextFault)
    → IsFirstBookFault version bytes a → IsFirstBookFault version bytes b → a ≡ b
one_first_fault version bytes a b h k = sharp.one_fault (book_rules version) (book_sharp version)
    (InHead TitleDue) (whole_text bytes) a b h k

-- bytes that are read as a book have no fault
pub no_first_fault : (version : Version) (bytes : List ℕ) (kind : Kind) (book : List Page)
    (fault : TextFault) → IsBookText version bytes kind book
    → IsFirstBookFault version bytes fault → ⊥
no_first_fault version bytes kind book fault h k = sharp.no_fault (book_rules version)
    (book_sharp version) (InHead TitleDue) (AtEnd kind book) (whole_text bytes) h.0 fault h.1 k

pub only_read : (version : Version) (bytes : List ℕ) (result : Result (Kind × List Page) ReadFault)
    → IfOk result (λ x. IsBookText version bytes x.0 x.1)
    → IfErr result (λ e. StopsFor (book_rules version) (InHead TitleDue) (whole_text bytes) e)
    → (kind : Kind) (book : List Page) → IsBookText version bytes kind book
    → MatchResult result (λ x. (x.0 ≡ kind) × (x.1 ≡ book)) (λ e. e ≡ NoMemory)
only_read version bytes (Ok x) h k kind book read = one_book version bytes x.0 kind x.1 book h read
only_read version bytes (Err NoMemory) h k kind book read = refl
only_read version bytes (Err (Text fault)) h k kind book read =
    absurd (no_first_fault version bytes kind book fault read k)

pub refused_read : (version : Version) (bytes : List ℕ)
    (result : Result (Kind × List Page) ReadFault)
    → IfErr result (λ e. StopsFor (book_rules version) (InHead TitleDue) (whole_text bytes) e)
    → IfErr result (λ e. (e ≡ NoMemory) ⊎ ((fault : TextFault) × (e ≡ Text fault)
    × IsFirstBookFault version bytes fault × IsNoBookText version bytes))
refused_read version bytes (Ok x) k = tt
refused_read version bytes (Err NoMemory) k = inl refl
refused_read version bytes (Err (Text fault)) k =
    inr (fault, refl, k, λ kind book read. no_first_fault version bytes kind book fault read k)

pub first_read : (version : Version) (bytes : List ℕ) (result : Result (Kind × List Page) ReadFault)
    → IfOk result (λ x. IsBookText version bytes x.0 x.1)
    → IfErr result (λ e. StopsFor (book_rules version) (InHead TitleDue) (whole_text bytes) e)
    → (fault : TextFault) → IsFirstBookFault version bytes fault
    → MatchResult result (λ x. ⊥) (λ e. (e ≡ Text fault) ⊎ (e ≡ NoMemory))
first_read version bytes (Ok x) h k fault f = no_first_fault version bytes x.0 x.1 fault h f
first_read version bytes (Err NoMemory) h k fault f = inr refl
first_read version bytes (Err (Text other)) h k fault f =
    inl (ap Text (one_first_fault version bytes other fault k f))
