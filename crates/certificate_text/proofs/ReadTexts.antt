-- A certificate that is read is the one of which the bytes are written.
use Rattle.std.proofs.Common.{◌≡◌, ℕ, ◌+◌, List, [], ◌∷◌, ◌++◌, length, map, refl, sym, ap, subst, ◌∙◌, append_assoc, inl, inr}
use Rattle.std.specs.List.{AllByRecursion}
use Rattle.std.proofs.lemmas.List.{append-nil}
use Rattle.std.proofs.lemmas.List.Concat.{flat_map-append}
use Rattle.book_base.specs.declared.call.Place.{Place}
use Rattle.book_base.specs.Book.{Page}
use Rattle.seq_objects.specs.declared.kind.Kind.{Kind}
use Rattle.text_fields.specs.declared.version.Version.TheVariants.{Second}
use Rattle.text_fields.specs.Lines.{line_text, text_of}
use Rattle.text_fields.specs.Faults.{AllPass}
use Rattle.text_fields.specs.Head.{TitleDue}
use Rattle.book_text.specs.Grammar.{end_words, book_lines, IsWrittenText}
use Rattle.book_text.specs.BookRules.{BookDue, InHead, InCalls, AtEnd, BookPasses, IsBookText}
use Rattle.book_text.proofs.ReadTexts as books
use Rattle.certificate_text.specs.Grammar.{order_words, place_line, order_lines, IsPlace, IsWrittenCertificate}
use Rattle.certificate_text.specs.CertificateRules.{CertificateDue, OrderDue, InPlaces, AllRead, after_book, CertificatePasses, IsCertificateText}
use Rattle.certificate_text.specs.Laws.{OneTextPerCertificate, ATextIsItsLines}
use Rattle.certificate_text.proofs.WrittenTexts.{written_is_read}

module _ (kind : Kind) (book : List Page) (order : List Place) where
  -- these lines lead from a state to the end of the certificate
  abbrev Leads : CertificateDue → List (List (List ℕ)) → Type 0
  Leads due lines = AllPass CertificatePasses due lines (AllRead kind book order)

  -- ---- the order

  -- the lines of places lead to the end of the certificate
  record IsTail (k : Kind) (b : List Page) (done : List Place)
      (lines : List (List (List ℕ))) : Type 0 where
    pub rest : List Place
    pub kinds : k ≡ kind
    pub books : b ≡ book
    pub whole : done ++ rest ≡ order
    pub places : AllByRecursion IsPlace rest
    pub text : lines ≡ map place_line rest ++ end_words ∷ []

  ended : (k : Kind) (b : List Page) (done : List Place) (words : List (List ℕ))
      (lines : List (List (List ℕ))) → words ≡ end_words → Leads (AllRead k b done) lines
      → IsTail k b done (words ∷ lines)
  ended k b done words [] e h = record {
    rest = [];
    kinds = cc;
    books = cc;
    whole = append-nil done ∙ cc;
    places = tt;
    text = ap (λ (w : List (List ℕ)). w ∷ []) e;
  }
  ended k b done words (other ∷ lines) e h = absurd h.1

  read_tail : (k : Kind) (b : List Page) (done : List Place) (lines : List (List (List ℕ)))
      → Leads (InPlaces k b done) lines → IsTail k b done lines
  read_tail k b done [] h = absurd cc
  read_tail k b done (words ∷ lines) (next, inl right, more) = ended k b done words lines right.0
      (subst (λ (due : CertificateDue). Leads due lines) right.1 more)
  read_tail k b done (words ∷ lines) (next, inr right, more) =
      let place : Place = right.0 in
      let tail = read_tail k b (done ++ place ∷ []) lines
      (subst (λ (due : CertificateDue). Leads due lines) right.2 more) in
      record {
        rest = place ∷ tail.rest;
        kinds = tail.kinds;
        books = tail.books;
        whole = sym (append_assoc done (place ∷ []) tail.rest) ∙ tail.whole;
        places = (right.1.may, tail.places);
        text = ap (λ (w : List (List ℕ)). w ∷ lines) right.1.text
            ∙ ap (λ (ls : List (List (List ℕ))). place_line place ∷ ls) tail.text;
      }

  -- the title and the lines of places lead to the end of the certificate
  record IsOrderRead (k : Kind) (b : List Page) (lines : List (List (List ℕ))) : Type 0 where
    pub kinds : k ≡ kind
    pub books : b ≡ book
    pub places : AllByRecursion IsPlace order
    pub text : lines ≡ order_lines order

  read_order : (k : Kind) (b : List Page) (lines : List (List (List ℕ)))
      → Leads (OrderDue k b) lines → IsOrderRead k b lines
  read_order k b [] h = absurd cc
  read_order k b (words ∷ lines) h =
      let tail =
      read_tail k b [] lines (subst (λ (due : CertificateDue). Leads due lines) h.1.1 h.2) in
      record {
        kinds = tail.kinds;
        books = tail.books;
        places = subst (AllByRecursion IsPlace) tail.whole tail.places;
        text = ap (λ (w : List (List ℕ)). w ∷ lines) h.1.0
            ∙ ap (λ (ls : List (List (List ℕ))). order_words ∷ ls) tail.text
            ∙ ap
            (λ (p : List Place). order_words ∷ (map place_line p ++ end_words ∷ [])) tail.whole;
      }

  -- ---- the book

  -- the lines are those of a book, up to its end, followed by others
  record IsSplit (due : BookDue) (lines : List (List (List ℕ))) : Type 0 where
    pub k : Kind
    pub b : List Page
    pub prefix : List (List (List ℕ))
    pub back : List (List (List ℕ))
    pub text : lines ≡ prefix ++ back
    pub prefix_right : AllPass (BookPasses Second) due prefix (AtEnd k b)
    pub back_right : Leads (OrderDue k b) back

  split : (due : BookDue) (lines : List (List (List ℕ))) → Leads (after_book due) lines
      → IsSplit due lines
  split (AtEnd k b) lines h = record {
    k = k;
    b = b;
    prefix = [];
    back = lines;
    text = refl;
    prefix_right = refl;
    back_right = h;
  }
  split (InHead due) [] h = absurd cc
  split (InHead due) (words ∷ lines) h =
      let more = split h.1.0 lines (subst (λ (d : CertificateDue). Leads d lines) h.1.2 h.2) in
      record {
        k = more.k;
        b = more.b;
        prefix = words ∷ more.prefix;
        back = more.back;
        text = ap (λ (ls : List (List (List ℕ))). words ∷ ls) more.text;
        prefix_right = (h.1.0, h.1.1, more.prefix_right);
        back_right = more.back_right;
      }
  split (InCalls k b calls) [] h = absurd cc
  split (InCalls k b calls) (words ∷ lines) h =
      let more = split h.1.0 lines (subst (λ (d : CertificateDue). Leads d lines) h.1.2 h.2) in
      record {
        k = more.k;
        b = more.b;
        prefix = words ∷ more.prefix;
        back = more.back;
        text = ap (λ (ls : List (List (List ℕ))). words ∷ ls) more.text;
        prefix_right = (h.1.0, h.1.1, more.prefix_right);
        back_right = more.back_right;
      }

-- a certificate that is read is the one of which the bytes are written
pub read_is_written : (bytes : List ℕ) (kind : Kind) (book : List Page) (order : List Place)
    → IsCertificateText bytes kind book order → IsWrittenCertificate bytes kind book order
read_is_written bytes kind book order h =
    let lines = h.1.goes.lines in
    let parts = split kind book order (InHead TitleDue) lines h.1.goes.right in
    let tail = read_order kind book order parts.k parts.b parts.back parts.back_right in
    let prefix_text : IsBookText Second (text_of parts.prefix) parts.k parts.b = (
      record { bytes = []; number = 1 + length parts.prefix },
      record {
        goes = record {
          lines = parts.prefix;
          right = parts.prefix_right;
          bytes = sym (append-nil (text_of parts.prefix));
          number = refl;
        };
        through = refl;
      },
    ) in
    let written : IsWrittenText Second (text_of parts.prefix) kind book
    = subst (λ (b : List Page). IsWrittenText Second (text_of parts.prefix) kind b) tail.books
    (subst (λ (k : Kind). IsWrittenText Second (text_of parts.prefix) k parts.b) tail.kinds
    (books.read_is_written Second (text_of parts.prefix) parts.k parts.b prefix_text)) in
    record {
      writable = written.writable;
      places = tail.places;
      text = h.1.goes.bytes ∙ ap (λ (x : List ℕ). text_of lines ++ x) h.1.through
          ∙ append-nil (text_of lines) ∙ ap text_of parts.text
          ∙ flat_map-append line_text parts.prefix parts.back
          ∙ ap (λ (x : List ℕ). x ++ text_of parts.back) written.text
          ∙ ap (λ (ls : List (List (List ℕ))). text_of (book_lines Second kind book) ++ text_of ls)
          tail.text
          ∙ sym (flat_map-append line_text (book_lines Second kind book) (order_lines order));
    }

-- a certificate has at most one text
pub one_text : OneTextPerCertificate
one_text a b kind book order h k =
    (read_is_written a kind book order h).text ∙ sym (read_is_written b kind book order k).text

pub a_text_is_its_lines : ATextIsItsLines
a_text_is_its_lines bytes kind book order =
    (written_is_read bytes kind book order, read_is_written bytes kind book order)
