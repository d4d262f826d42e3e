-- Bytes are read as at most one certificate, and have at most one first fault.
use Rattle.std.proofs.Common.{◌≡◌, ℕ, ◌⊎◌, List, [], ◌∷◌, ◌++◌, Result, Ok, Err, refl, ap, ◌∙◌, inl, inr}
use Rattle.std.specs.Prelude.{IfOk, IfErr, MatchResult}
use Rattle.std.proofs.lemmas.List.{append-nil}
use Rattle.book_base.specs.declared.call.Place.{Place}
use Rattle.book_base.specs.declared.fault.TextFault.{TextFault}
use Rattle.book_base.specs.declared.fault.ReadFault.{ReadFault}
use Rattle.book_base.specs.declared.fault.ReadFault.TheVariants.{Text, NoMemory}
use Rattle.book_base.specs.Book.{Page}
use Rattle.seq_objects.specs.declared.kind.Kind.{Kind}
use Rattle.text_fields.specs.Lines.{Unread, text_of}
use Rattle.text_fields.specs.Faults.{StopsFor, GoesTo}
use Rattle.text_fields.proofs.Sharp as sharp
use Rattle.book_text.specs.BookRules.{whole_text}
use Rattle.certificate_text.specs.declared.certificate.Certificate.{Certificate}
use Rattle.certificate_text.specs.CertificateRules.{AllRead, nothing_read, certificate_rules, IsCertificateText, IsNoCertificateText, IsFirstCertificateFault}
use Rattle.certificate_text.specs.Laws.{AreOne, OneCertificatePerText, OneFirstFault, NoFaultOfAText, NoTextBeginsAnother}
use Rattle.certificate_text.proofs.SharpCertificates.{certificate_sharp}

same_end : (k l : Kind) (a b : List Page) (p q : List Place) → AllRead k a p ≡ AllRead l b q
    → AreOne k l a b p q
same_end k l a b p q e = record { kinds = cc; books = cc; orders = cc }

-- bytes are read as at most one certificate
pub one_certificate : OneCertificatePerText
one_certificate bytes k l a b p q h j =
    same_end k l a b p q (sharp.one_reading certificate_rules certificate_sharp nothing_read
    (AllRead k a p) (AllRead l b q) (whole_text bytes) h.0 j.0 h.1 j.1).0

-- bytes have at most one first fault
pub one_fault : OneFirstFault
one_fault bytes a b h k =
    sharp.one_fault certificate_rules certificate_sharp nothing_read (whole_text bytes) a b h k

-- bytes that are read as a certificate have no fault
pub no_fault : NoFaultOfAText
no_fault bytes kind book order fault h k = sharp.no_fault certificate_rules certificate_sharp
    nothing_read (AllRead kind book order) (whole_text bytes) h.0 fault h.1 k

-- no certificate's text is a proper prefix of another's
pub no_prefix : NoTextBeginsAnother
no_prefix bytes [] k l a b p q h j = refl
no_prefix bytes (byte ∷ more) k l a b p q h j =
    let left : Unread = record { bytes = byte ∷ more; number = h.0.number } in
    let whole : h.0.bytes ≡ [] = h.1.through in
    let start : GoesTo certificate_rules nothing_read (whole_text (bytes ++ byte ∷ more))
    (AllRead k a p) left = record {
      lines = h.1.goes.lines;
      right = h.1.goes.right;
      bytes = ap (λ (x : List ℕ). x ++ byte ∷ more)
          (h.1.goes.bytes ∙ ap (λ (x : List ℕ). text_of h.1.goes.lines ++ x) whole
          ∙ append-nil (text_of h.1.goes.lines));
      number = h.1.goes.number;
    } in
    let rest = sharp.stops_rest certificate_rules (AllRead k a p) left refl (λ e. absurd cc) in
    absurd (no_fault (bytes ++ byte ∷ more) l b q _ j (sharp.stops_later certificate_rules
    nothing_read (AllRead k a p) (whole_text (bytes ++ byte ∷ more)) left _ start rest))

-- ---- the answers of a reader

-- a certificate that was read is the one that the bytes are the text of
abbrev pub IsFound : List ℕ → Result Certificate ReadFault → Type 0
IsFound bytes result =
    IfOk result (λ read. IsCertificateText bytes read.kind read.book read.order.items)

-- a reader stops for the first fault, or for want of memory
abbrev pub IsStopped : List ℕ → Result Certificate ReadFault → Type 0
IsStopped bytes result =
    IfErr result (λ e. StopsFor certificate_rules nothing_read (whole_text bytes) e)

pub only_read : (bytes : List ℕ) (result : Result Certificate ReadFault) → IsFound bytes result
    → IsStopped bytes result → (kind : Kind) (book : List Page) (order : List Place)
    → IsCertificateText bytes kind book order
    → MatchResult result
    (λ read. (read.kind ≡ kind) × (read.book ≡ book) × (read.order.items ≡ order))
    (λ e. e ≡ NoMemory)
only_read bytes (Ok x) h k kind book order read = let one =
    one_certificate bytes x.kind kind x.book book x.order.items order h read in
    (one.kinds, one.books, one.orders)
only_read bytes (Err NoMemory) h k kind book order read = refl
only_read bytes (Err (Text fault)) h k kind book order read =
    absurd (no_fault bytes kind book order fault read k)

pub refused_read : (bytes : List ℕ) (result : Result Certificate ReadFault) → IsStopped bytes result
    → IfErr result (λ e. (e ≡ NoMemory) ⊎ ((fault : TextFault) × (e ≡ Text fault)
    × IsFirstCertificateFault bytes fault × IsNoCertificateText bytes))
refused_read bytes (Ok x) k = tt
refused_read bytes (Err NoMemory) k = inl refl
refused_read bytes (Err (Text fault)) k =
    inr (fault, refl, k, λ kind book order read. no_fault bytes kind book order fault read k)

pub first_read : (bytes : List ℕ) (result : Result Certificate ReadFault) → IsFound bytes result
    → IsStopped bytes result
    → (fault : TextFault) → IsFirstCertificateFault bytes fault
    → MatchResult result (λ x. ⊥) (λ e. (e ≡ Text fault) ⊎ (e ≡ NoMemory))
first_read bytes (Ok x) h k fault f = no_fault bytes x.kind x.book x.order.items fault h f
first_read bytes (Err NoMemory) h k fault f = inr refl
first_read bytes (Err (Text other)) h k fault f = inl (ap Text (one_fault bytes other fault k f))
