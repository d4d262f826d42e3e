-- Which error line of a run's report was the first.
use Rattle.std.specs.Prelude.{◌≡◌, ◌⊎◌, ℕ, ◌+◌, ◌<◌, List, take}
use Rattle.book_base.specs.declared.call.Call.{Call}
use Rattle.reports.specs.Findings.{Findings, IsFirstError}
use Rattle.report_text.specs.ReportRules.{IsReportText}
use Rattle.given_book.specs.Given.{HasEndAt, HasNoEnd}

-- The part is the beginning of the bytes, up to and with the first line `end` that isn't the first
-- line of all.
pub record IsUpToEnd (bytes part : List ℕ) : Type 0 where
  pub at : ℕ
  pub rest : List ℕ
  pub has : HasEndAt bytes at rest
  pub first : (i : ℕ) (other : List ℕ) → i < at → ¬ (HasEndAt bytes i other)
  pub is : part ≡ take (at + 5) bytes

-- The part is what may be the text of a report: the bytes up to and with the first line `end` that
-- isn't the first line of all, or all bytes where no line after the first is `end`.
abbrev pub IsReportPart : List ℕ → List ℕ → Type 0
IsReportPart bytes part = IsUpToEnd bytes part ⊎ (HasNoEnd bytes × (part ≡ bytes))

-- The input begins with the text of a report whose first error line, by caller and then by number,
-- is the line of this call. The witness of the report is the book at this line's seen cut.
pub record IsFirstErrorGiven (bytes : List ℕ) (call : Call) : Type 0 where
  pub part : List ℕ
  pub is : IsReportPart bytes part
  pub findings : Findings
  pub told : IsReportText part findings
  pub cut : List ℕ
  pub error : IsFirstError findings.lines call cut
