-- The first fault is where bytes stop being the beginning of a certificate's text.
use Rattle.std.proofs.Common.{◌≡◌, ◌≢◌, ℕ, ◌⊎◌, List, [], ◌∷◌, ◌++◌, refl, sym, ap, subst, inl, inr}
use Rattle.book_base.specs.declared.call.Place.{Place}
use Rattle.book_base.specs.declared.fault.TextFault.{TextFault}
use Rattle.book_base.specs.declared.fault.What.{What}
use Rattle.book_base.specs.declared.fault.What.TheVariants as what
use Rattle.book_base.specs.Book.{Page}
use Rattle.seq_objects.specs.declared.kind.Kind.{Kind}
use Rattle.text_fields.specs.declared.version.Version.TheVariants.{Second}
use Rattle.text_fields.specs.Faults.{ALine, AllPass}
use Rattle.text_fields.proofs.Sharp.{AllPass-append}
use Rattle.book_text.specs.Grammar.{end_words}
use Rattle.book_text.specs.BookRules.{BookDue, InHead, InCalls, AtEnd, BookPasses}
use Rattle.book_text.specs.AnyTextBeginnings.{BreaksOff, GoesPast}
use Rattle.book_text.specs.Beginnings.{EndsEarly}
use Rattle.book_text.proofs.FaultTexts as book_faults
use Rattle.book_text.proofs.Leavings as leavings
use Rattle.book_text.proofs.Leavings.{Completes}
use Rattle.certificate_text.specs.Grammar.{order_lines}
use Rattle.certificate_text.specs.CertificateRules.{CertificateDue, InBook, OrderDue, InPlaces, AllRead, after_book, nothing_read, PlaceFails, CertificatePasses, CertificateFails, certificate_wanted, certificate_rules, IsCertificateText, IsFirstCertificateFault}
use Rattle.certificate_text.specs.Beginnings.{BreaksText, GoesOn, LeavesTexts}
use Rattle.certificate_text.proofs.SharpCertificates.{certificate_sharp}
use Rattle.certificate_text.proofs.WrittenTexts.{order_passes}

-- ---- right lines can be completed

-- right lines can complete a text from the state: within the book those of a book can
abbrev CanCome : CertificateDue → Type 0
CanCome (InBook (InHead due)) = book_faults.CanCome Second (InHead due)
CanCome (InBook (InCalls kind book calls)) = book_faults.CanCome Second (InCalls kind book calls)
CanCome (InBook (AtEnd kind book)) = ⊥
CanCome (OrderDue kind book) = Unit {0}
CanCome (InPlaces kind book order) = Unit {0}
CanCome (AllRead kind book order) = Unit {0}

comes_after : (due : BookDue) → book_faults.CanCome Second due → CanCome (after_book due)
comes_after (InHead due) can = can
comes_after (InCalls kind book calls) can = can
comes_after (AtEnd kind book) can = tt

comes_next : (due after : CertificateDue) (words : List (List ℕ)) → CanCome due
    → CertificatePasses due words after → CanCome after
comes_next (InBook (InHead due)) after words can h = subst CanCome (sym h.2)
    (comes_after h.0 (book_faults.comes_next Second (InHead due) h.0 words can h.1))
comes_next (InBook (InCalls kind book calls)) after words can h = subst CanCome (sym h.2)
    (comes_after h.0 (book_faults.comes_next Second (InCalls kind book calls) h.0 words can h.1))
comes_next (InBook (AtEnd kind book)) after words can h = absurd can
comes_next (OrderDue kind book) after words can h = subst CanCome (sym h.1) tt
comes_next (InPlaces kind book order) after words can (inl h) = subst CanCome (sym h.1) tt
comes_next (InPlaces kind book order) after words can (inr h) = subst CanCome (sym h.2) tt
comes_next (AllRead kind book order) after words can h = absurd h

abbrev Said : Type 0
Said = Kind × List Page × List Place

-- what the end of a certificate's text says, as a state of reading it
abbrev ended : Said → CertificateDue
ended said = AllRead said.0 said.1 said.2

-- right lines up to the end of a book are right in a certificate
book_lines : (from : BookDue) (kind : Kind) (book : List Page) (lines : List (List (List ℕ)))
    → AllPass (BookPasses Second) from lines (AtEnd kind book)
    → AllPass CertificatePasses (after_book from) lines (OrderDue kind book)
book_lines from kind book [] h = ap after_book h
book_lines (InHead due) kind book (words ∷ lines) h =
    (after_book h.0, (h.0, h.1, refl), book_lines h.0 kind book lines h.2)
book_lines (InCalls k b calls) kind book (words ∷ lines) h =
    (after_book h.0, (h.0, h.1, refl), book_lines h.0 kind book lines h.2)
book_lines (AtEnd k b) kind book (words ∷ lines) h = absurd h.1

then_order : (due : BookDue) → book_faults.Done Second due
    → Completes certificate_rules ended (after_book due)
then_order due c = record {
  said = (c.said.0, c.said.1, []);
  lines = c.lines ++ order_lines [];
  right = AllPass-append certificate_rules (after_book due) (OrderDue c.said.0 c.said.1)
      (AllRead c.said.0 c.said.1 []) c.lines (order_lines [])
      (book_lines due c.said.0 c.said.1 c.lines c.right) (order_passes c.said.0 c.said.1 [] tt);
}

completes : (due : CertificateDue) → CanCome due → Completes certificate_rules ended due
completes (InBook (InHead due)) can =
    then_order (InHead due) (book_faults.completes Second (InHead due) can)
completes (InBook (InCalls kind book calls)) can = then_order (InCalls kind book calls)
    (book_faults.completes Second (InCalls kind book calls) can)
completes (InBook (AtEnd kind book)) can = absurd can
completes (OrderDue kind book) can = record {
  said = (kind, book, []);
  lines = order_lines [];
  right = order_passes kind book [] tt;
}
completes (InPlaces kind book order) can = record {
  said = (kind, book, order);
  lines = end_words ∷ [];
  right = (AllRead kind book order, inl (refl, refl), refl);
}
completes (AllRead kind book order) can =
    record { said = (kind, book, order); lines = []; right = refl }

-- ---- the names of faults

-- the test is one of a whole line: not that the text is cut, and not that bytes follow the end
abbrev IsOfLine : What → Type 0
IsOfLine name = (name ≢ what.Cut) × (name ≢ what.Rest)

place_named : (words : List (List ℕ)) (name : What) → PlaceFails words name → IsOfLine name
place_named words what.Place h = (λ e. absurd cc, λ e. absurd cc)
place_named words what.Reply h = (λ e. absurd cc, λ e. absurd cc)
place_named words _ h = absurd h

line_named : (due : CertificateDue) (words : List (List ℕ)) (name : What)
    → CertificateFails due words name → IsOfLine name
line_named (InBook due) words name h = book_faults.line_named Second due words name h
line_named (OrderDue kind book) words name h =
    (λ e. absurd (cc (h.0, e)), λ e. absurd (cc (h.0, e)))
line_named (InPlaces kind book order) words name h = place_named words name h
line_named (AllRead kind book order) words name h = absurd h

line_or_end : (due : CertificateDue) → CanCome due → (certificate_wanted due ≡ ALine)
    ⊎ ((said : Said) × (due ≡ ended said))
line_or_end (InBook due) can = inl refl
line_or_end (OrderDue kind book) can = inl refl
line_or_end (InPlaces kind book order) can = inl refl
line_or_end (AllRead kind book order) can = inr ((kind, book, order), refl)

same_end : (a b : Said) → AllRead a.0 a.1 a.2 ≡ AllRead b.0 b.1 b.2 → a ≡ b
same_end a b e =
    let kinds : a.0 ≡ b.0 = cc in
    let books : a.1 ≡ b.1 = cc in
    let orders : a.2 ≡ b.2 = cc in
    λ i. (kinds i, books i, orders i)

abbrev IsText : List ℕ → Said → Type 0
IsText bytes said = IsCertificateText bytes said.0 said.1 said.2

leaves_so : (prefix rest : List ℕ) (name : What) → BreaksOff IsText prefix rest name
    ⊎ (EndsEarly rest name ⊎ GoesPast IsText prefix rest name)
    → BreaksText prefix rest name ⊎ (EndsEarly rest name ⊎ GoesOn prefix rest name)
leaves_so prefix rest name (inl breaks) = inl (record {
  named = breaks.named;
  line = breaks.line;
  suffix = breaks.suffix;
  whole = breaks.whole;
  none = λ kind book order more text. breaks.none (kind, book, order) more text;
})
leaves_so prefix rest name (inr (inl early)) = inr (inl early)
leaves_so prefix rest name (inr (inr past)) = inr (inr (record {
  named = past.named;
  kind = past.said.0;
  book = past.said.1;
  order = past.said.2;
  text = past.text;
  more = past.more;
}))

-- the first fault is where the bytes stop being the beginning of a certificate's text
pub leaves_texts : (bytes : List ℕ) (fault : TextFault) → IsFirstCertificateFault bytes fault
    → LeavesTexts bytes fault
leaves_texts bytes fault h =
    let at = leavings.leaves_texts certificate_rules certificate_sharp nothing_read ended same_end
    (λ said. refl) CanCome tt comes_next completes line_named line_or_end bytes fault h in
    record {
      count = at.count;
      prefix = at.prefix;
      rest = at.rest;
      line = at.line;
      bytes_are = at.bytes_are;
      lines = at.lines;
      begins = (at.begins.0.0, at.begins.0.1, at.begins.0.2, at.begins.1, at.begins.2);
      leaves = leaves_so at.prefix at.rest fault.what at.leaves;
      no_text = λ kind book order text. at.no_text (kind, book, order) text;
    }
