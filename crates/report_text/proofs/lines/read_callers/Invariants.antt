use Rattle.std.proofs.Common.{◌≡◌, ℕ, ◌≤◌, [], take, drop, get_or}
use Rattle.book_base.specs.Book.{calls_of, answers_of}
use Rattle.text_fields.specs.Faults.{GoesTo}
use Rattle.book_text.specs.CallLines.{all_calls}
use Rattle.reports.specs.Findings.{sizes}
use Rattle.reports.specs.ReportLayout.{lines_in}
use Rattle.report_text.specs.ReportRules.{InLines, report_rules}
use Rattle.report_text.specs.Drafts.{IsDraft, IsWide}
use Rattle.report_text.specs.Parts.{chained}
use Rattle.report_text.proofs.lines.read_callers.Given as goal

abbrev pub invariant-loop-i : goal.invariant-loop-i
invariant-loop-i l = record {
  goes : GoesTo report_rules (InLines l.kind l.calls [] (all_calls 0 l.calls)) l.fn.lines
      (InLines l.kind l.calls (chained (lines_in l.callers.items))
      (all_calls l.i (drop l.i l.calls))) l.lines;
  draft : IsDraft l.calls (chained (lines_in l.callers.items)) l.draft;
  sizes : sizes (lines_in l.callers.items) ≡ take l.i l.calls;
  wide : IsWide l.draft;
  calls : (j : ℕ) → calls_of l.draft.book j ≡ get_or l.calls j 0;
  unanswered : (j : ℕ) → l.i ≤ j → answers_of l.draft.book j ≡ 0;
}
