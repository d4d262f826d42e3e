-- The bytes that are written of a certificate are read as this certificate.
use Rattle.std.proofs.Common.{◌≡◌, ℕ, ◌+◌, List, [], ◌∷◌, ◌++◌, length, map, refl, sym, ap, subst, ◌∙◌, append_assoc, inl, inr}
use Rattle.std.specs.List.{AllByRecursion}
use Rattle.std.proofs.lemmas.List.{append-nil}
use Rattle.std.proofs.lemmas.List.Concat.{flat_map-append}
use Rattle.book_base.specs.declared.call.Place.{Place}
use Rattle.book_base.specs.Book.{Page}
use Rattle.seq_objects.specs.declared.kind.Kind.{Kind}
use Rattle.text_fields.specs.declared.version.Version.TheVariants.{Second}
use Rattle.text_fields.specs.Lines.{line_text, text_of}
use Rattle.text_fields.specs.Faults.{AllPass}
use Rattle.text_fields.specs.Head.{TitleDue}
use Rattle.text_fields.proofs.Sharp.{AllPass-append}
use Rattle.book_text.specs.Grammar.{end_words, book_lines}
use Rattle.book_text.specs.BookRules.{BookDue, InHead, InCalls, AtEnd, BookPasses, IsBookText}
use Rattle.book_text.proofs.WrittenTexts as books
use Rattle.certificate_text.specs.Grammar.{place_line, order_lines, IsPlace, IsWrittenCertificate}
use Rattle.certificate_text.specs.CertificateRules.{OrderDue, InPlaces, AllRead, after_book, nothing_read, CertificatePasses, certificate_rules, IsCertificateText}

-- the right lines of a book are right in the text of a certificate
pub book_right : (due after : BookDue) (words : List (List ℕ)) → BookPasses Second due words after
    → CertificatePasses (after_book due) words (after_book after)
book_right (InHead due) after words h = (after, h, refl)
book_right (InCalls kind book calls) after words h = (after, h, refl)
book_right (AtEnd kind book) after words h = absurd h

pub book_passes : (due after : BookDue) (lines : List (List (List ℕ)))
    → AllPass (BookPasses Second) due lines after
    → AllPass CertificatePasses (after_book due) lines (after_book after)
book_passes due after [] h = ap after_book h
book_passes due after (words ∷ lines) h =
    (after_book h.0, book_right due h.0 words h.1, book_passes h.0 after lines h.2)

module _ (kind : Kind) (book : List Page) where
  -- the lines of places and the end are right after the title of the order
  pub places_pass : (done order : List Place) → AllByRecursion IsPlace order
      → AllPass CertificatePasses (InPlaces kind book done) (map place_line order ++ end_words ∷ [])
      (AllRead kind book (done ++ order))
  places_pass done [] h =
      (AllRead kind book done, inl (refl, refl), ap (AllRead kind book) (sym (append-nil done)))
  places_pass done (place ∷ order) h =
      let one : List Place = done ++ place ∷ [] in (
        InPlaces kind book one,
        inr (place, record { may = h.0; text = refl }, refl),
        subst (λ (all : List Place). AllPass CertificatePasses (InPlaces kind book one)
            (map place_line order ++ end_words ∷ []) (AllRead kind book all))
            (append_assoc done (place ∷ []) order) (places_pass one order h.1),
      )

  pub order_passes : (order : List Place) → AllByRecursion IsPlace order
      → AllPass CertificatePasses (OrderDue kind book) (order_lines order) (AllRead kind book order)
  order_passes order h = (InPlaces kind book [], (refl, refl), places_pass [] order h)

-- the lines of an order may follow the text of a book
pub order_after : (bytes : List ℕ) (kind : Kind) (book : List Page) (order : List Place)
    → IsBookText Second bytes kind book → AllByRecursion IsPlace order
    → IsCertificateText (bytes ++ text_of (order_lines order)) kind book order
order_after bytes kind book order read places =
    let ls : List (List (List ℕ)) = read.1.goes.lines in
    let back : List (List (List ℕ)) = order_lines order in
    let same : bytes ≡ text_of ls = read.1.goes.bytes
    ∙ ap (λ (x : List ℕ). text_of ls ++ x) read.1.through ∙ append-nil (text_of ls) in
    let whole : bytes ++ text_of back ≡ text_of (ls ++ back) ++ []
    = ap (λ (x : List ℕ). x ++ text_of back) same ∙ sym (flat_map-append line_text ls back)
    ∙ sym (append-nil (text_of (ls ++ back))) in (
      record { bytes = []; number = 1 + length (ls ++ back) },
      record {
        goes = record {
          lines = ls ++ back;
          right = AllPass-append certificate_rules nothing_read (OrderDue kind book)
              (AllRead kind book order) ls back
              (book_passes (InHead TitleDue) (AtEnd kind book) ls read.1.goes.right)
              (order_passes kind book order places);
          bytes = whole;
          number = refl;
        };
        through = refl;
      },
    )

-- the bytes that are written of a certificate are read as this certificate
pub written_is_read : (bytes : List ℕ) (kind : Kind) (book : List Page) (order : List Place)
    → IsWrittenCertificate bytes kind book order → IsCertificateText bytes kind book order
written_is_read bytes kind book order h =
    let prefix : List (List (List ℕ)) = book_lines Second kind book in
    let read : IsBookText Second (text_of prefix) kind book = books.written_is_read Second
    (text_of prefix) kind book (record { writable = h.writable; text = refl }) in
    subst (λ (b : List ℕ). IsCertificateText b kind book order)
    (sym (h.text ∙ flat_map-append line_text prefix (order_lines order)))
    (order_after (text_of prefix) kind book order read h.places)
