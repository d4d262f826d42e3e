-- The texts of reports, which are of version 2.
use Rattle.std.specs.Prelude.{◌≡◌, ℕ, List, [], ◌∷◌, ◌++◌, codes, Some}
use Rattle.book_base.specs.declared.call.Call.{Call}
use Rattle.seq_objects.specs.declared.kind.Kind.{Kind}
use Rattle.seq_objects.specs.Words.{operation_words}
use Rattle.text_fields.specs.declared.version.Version.TheVariants.{Second}
use Rattle.text_fields.specs.Lines.{text_of, by_number}
use Rattle.text_fields.specs.Counts.{pair_words}
use Rattle.text_fields.specs.Head.{head_lines}
use Rattle.book_text.specs.CallLines.{place_words, answer_words}
use Rattle.book_text.specs.Grammar.{end_words}
use Rattle.report_lines.specs.declared.line.LineEnd.{LineEnd}
use Rattle.report_lines.specs.declared.line.LineEnd.TheVariants.{Pending, Unchecked, Delivered, Error}
use Rattle.report_lines.specs.declared.line.Line.{Line}
use Rattle.reports.specs.Findings.{Findings, sizes, IsReport}

-- The words that tell a seen cut: `seen`, and then the pairs of the cut's counts.
abbrev pub seen_words : List ℕ → List (List ℕ)
seen_words cut = codes "seen" ∷ pair_words 0 cut

-- The words that tell the end of a line: the answer, where the call has one, then what became of
-- the call, and its seen cut, where it has one.
abbrev pub ending_words : LineEnd → List (List ℕ)
ending_words Pending = codes "pending" ∷ []
ending_words (Unchecked r) = answer_words Second (Some r) ++ codes "unchecked" ∷ []
ending_words (Delivered r cut) = answer_words Second (Some r) ++ codes "ok" ∷ seen_words cut
ending_words (Error r cut) = answer_words Second (Some r) ++ codes "error" ∷ seen_words cut

-- The words of a line: the caller and number of its call, its operation, and its end.
abbrev pub line_words : Kind → Call → Line → List (List ℕ)
line_words kind call line =
    place_words call ++ (operation_words kind line.op ++ ending_words line.end)

-- The text line of call `number` of caller `caller`, in a list of its own.
abbrev pub call_line : Kind → ℕ → ℕ → Line → List (List (List ℕ))
call_line kind caller number line =
    line_words kind (record { caller = caller; number = number }) line ∷ []

-- The text lines of one caller, one for each of its calls, by number.
abbrev pub caller_lines : Kind → ℕ → List Line → List (List (List ℕ))
caller_lines kind caller own = by_number (call_line kind caller) 0 own

-- The lines of a report: the head, one line for each call by caller and then by number, and the
-- end.
abbrev pub report_lines : Findings → List (List (List ℕ))
report_lines findings = head_lines Second (codes "report") findings.kind (sizes findings.lines)
    ++ (by_number (caller_lines findings.kind) 0 findings.lines ++ end_words ∷ [])

-- The bytes are the text of these findings, and a text of version 2 can say them.
pub record IsWrittenText (bytes : List ℕ) (findings : Findings) : Type 0 where
  pub writable : IsReport findings
  pub text : bytes ≡ text_of (report_lines findings)
