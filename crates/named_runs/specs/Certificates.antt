-- Certificates of reports: the book of what was delivered, and a legal order of it.
use Rattle.std.specs.Prelude.{ℕ, List, length}
use Rattle.std.specs.List.{filter_map}
use Rattle.book_base.specs.declared.call.Place.{Place}
use Rattle.book_base.specs.SeqSpec.{SeqSpec}
use Rattle.book_base.specs.Book.{Page}
use Rattle.book_base.specs.BookAt.{IsBookAt}
use Rattle.book_base.specs.Order.{IsLegalOrder, HasLegalOrder}
use Rattle.report_lines.specs.declared.line.Line.{Line}
use Rattle.report_lines.specs.Lines.{book_of_lines, delivered_in}
use Rattle.report_lines.specs.Lawful.{delivered_cut}
use Rattle.reports.specs.Findings.{Findings}
use Rattle.certificate_text.specs.Grammar.{IsWrittenCertificate}

-- The seen cuts of a caller's delivered lines.
abbrev pub delivered_cuts_in : List Line → List (List ℕ)
delivered_cuts_in own = filter_map (λ (line : Line). delivered_in line.end) own

-- The greatest seen cut of the delivered lines of all callers, which is all zeros where no line is
-- delivered.
abbrev pub delivered_cut_of : List (List Line) → List ℕ
delivered_cut_of lines = delivered_cut (length lines) lines

-- The book is the one at the greatest seen cut of the delivered lines.
abbrev pub IsDeliveredBook : List (List Line) → List Page → Type 0
IsDeliveredBook lines book = IsBookAt (book_of_lines lines) (delivered_cut_of lines) book

-- The book of what was delivered has a legal order, for the sequential object with this first list
-- and this transition function.
abbrev pub HasDeliveredOrder : SeqSpec → List (List Line) → Type 0
HasDeliveredOrder spec lines = (book : List Page) × IsDeliveredBook lines book
    × HasLegalOrder spec book

-- The bytes are a certificate of a report: the text of the book of what was delivered, and of a
-- legal order of it.
pub record IsCertificate (spec : SeqSpec) (report : Findings) (bytes : List ℕ) : Type 0 where
  pub book : List Page
  pub order : List Place
  pub at : IsDeliveredBook report.lines book
  pub legal : IsLegalOrder spec book order
  pub text : IsWrittenCertificate bytes report.kind book order
